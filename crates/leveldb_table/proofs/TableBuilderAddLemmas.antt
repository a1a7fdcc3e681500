-- What follows from how a pair is added and why one is refused.
use Rattle.std.proofs.Common.{OnOk, OnErr, ◌∙◌, ◌≡◌, ◌≢◌, ℕ, ◌<◌, ◌≤◌, Bool, true, false, refl, List, [], ◌∷◌, length, None, Result, Ok, Err, inl, inr, ◌⊎◌, ap, subst, arith}
use Rattle.leveldb_base.specs.Types.{Pair}
use Rattle.leveldb_base.specs.declared.cmp.Cmp.{Ghosts as CmpGhosts}
use Rattle.leveldb_base.specs.declared.error.Status.{Status}
use Rattle.leveldb_base.specs.Error.{IsOutOfMemory}
use Rattle.leveldb_env.specs.Compressor.{Codings, IsUnset}
use Rattle.leveldb_env.specs.declared.filter.FilterPolicy.{Ghosts as PolicyGhosts}
use Rattle.leveldb_table.specs.Block.{BlockEntry}
use Rattle.leveldb_table.specs.BlockBuilder.{estimate}
use Rattle.leveldb_table.specs.TableBuilderStage.{Stage}
use Rattle.leveldb_table.specs.TableBuilder.{TableBuilt, stage, IsFull}
use Rattle.leveldb_table.specs.TableBuilderAdd.{IsNotAdded, ClosesOpen, HasRoom, TriesOpen, PutsOpen, IsNotClosed, IsNotTaken, IsAddError, TakesNoPair}

-- a first restart point that was set before stays so, whatever comes of an added pair
pub begun_kept : {T E : Type 0} (A B : Type 0) {old new : Bool} (result : Result T E) → OnOk result (A × (new ≡ true)) → OnErr result (B × (new ≡ old)) → old ≡ true → new ≡ true
begun_kept A B (Ok value) ok err begun = ok.1
begun_kept A B (Err error) ok err begun = err.1 ∙ begun

no_entries : (entries : List BlockEntry) → entries ≢ [] → length entries ≡ 0 → ⊥
no_entries [] some e = some refl
no_entries (entry ∷ entries) some e = absurd (omega (arith, e))

-- whether the open block is full
module _ {C FP : Type 0} (core : TableBuilt C FP) where
  pub is_full : 0 < length core.block.entries → core.block_size < estimate core.block.entries true → IsFull core
  is_full some large = ((λ e. let none = ap length e in absurd (omega (arith, some, none))), large)

  pub not_full : (length core.block.entries ≡ 0) ⊎ (estimate core.block.entries true ≤ core.block_size) → IsFull core → ⊥
  not_full (inl none) full = no_entries core.block.entries full.0 none
  not_full (inr small) full = absurd (omega (arith, small, full.1))

module _ {C FP : Type 0} (order : CmpGhosts C) (policy : PolicyGhosts FP) (codings : Codings) (core : TableBuilt C FP) {S : Type 0} (puts : S → List ℕ → Result (Unit {0}) Status → S → Type 0) where
  -- a block that was closed was put
  pub closed_put : (next bytes : List ℕ) (new : Stage FP) (from to : S) (closes : ClosesOpen order policy codings core next bytes new) → puts from bytes (Ok tt) to → PutsOpen order policy codings core puts from closes.handle to
  closed_put next bytes new from to closes put = (
    closes.stored,
    record { text = closes.text; made = closes.made; decoded = closes.decoded },
    new.offset,
    record { put = subst (λ z. puts from z (Ok tt) to) closes.encoded put; begins = closes.begins; size = closes.size; fits = closes.fits; ends = closes.ends },
  )

  -- what a refusal leaves in the sink
  pub tries_closed : (next : List ℕ) (from : S) (status : Status) (to : S) → IsNotClosed order policy codings core puts next from status to → TriesOpen order policy codings core puts from to
  tries_closed next from status to (inl h) = inl h.0
  tries_closed next from status to (inr (inl (text, made, inl h))) = inl h.0
  tries_closed next from status to (inr (inl (text, made, inr (inl h)))) = inl h.0
  tries_closed next from status to (inr (inl (text, made, inr (inr (stored, decoded, inl (fits, put)))))) = inr (stored, record { text = text; made = made; decoded = decoded }, Err status, put)
  tries_closed next from status to (inr (inl (text, made, inr (inr (stored, decoded, inr h))))) = inl h.0
  tries_closed next from status to (inr (inr (handle, (stored, is, end, placed), why))) = inr (stored, is, Ok tt, placed.put)

  pub tries_taken : (pair : Pair) (from : S) (status : Status) (to : S) → IsNotTaken order policy codings core puts pair from status to → TriesOpen order policy codings core puts from to
  tries_taken pair from status to (inl h) = inl h.1
  tries_taken pair from status to (inr (inl h)) = tries_closed pair.0 from status to h.1
  tries_taken pair from status to (inr (inr (full, handle, (stored, is, end, placed), why))) = inr (stored, is, Ok tt, placed.put)

  -- there was room, and the pair wasn't added
  pub taken_after : (pair : Pair) (new : TableBuilt C FP) (from : S) (status : Status) (to : S) → HasRoom order policy codings core puts pair.0 new from to → IsNotAdded new.block.entries core.count pair status
      → IsNotTaken order policy codings core puts pair from status to
  taken_after pair new from status to (inl h) why = inl (h.0, h.3, subst (λ entries. IsNotAdded entries core.count pair status) h.2 why)
  taken_after pair new from status to (inr (full, empty, bytes, put, closes)) why =
      inr (inr (full, closes.handle, closed_put pair.0 bytes (stage new) from to closes put, subst (λ entries. IsNotAdded entries core.count pair status) empty why))

  pub tries_refused : (pair : Pair) (from : S) (status : Status) (to : S) → IsAddError order policy codings core puts pair from status to → TriesOpen order policy codings core puts from to
  tries_refused pair from status to (inl h) = inl h.2
  tries_refused pair from status to (inr h) = tries_taken pair from status to h.1

-- a builder is broken or it isn't
pub broken_clash : {broken : Bool} → broken ≡ true → broken ≡ false → ⊥
broken_clash broken_is unbroken = cc

-- an unbroken builder that doesn't take a pair
pub takes_no_pair : {C FP S : Type 0} {order : CmpGhosts C} {policy : PolicyGhosts FP} {codings : Codings} {puts : S → List ℕ → Result (Unit {0}) Status → S → Type 0} {old new : TableBuilt C FP} {pair : Pair} {from to : S} {status : Status}
    → old.broken ≡ false → new.broken ≡ true → new.count ≡ old.count → IsNotTaken order policy codings old puts pair from status to
    → (IsFull old → codings old.compressor ≡ None → (IsUnset old.compressor status ⊎ IsOutOfMemory status) × (to ≡ from)) → TakesNoPair order policy codings puts old new pair from status to
takes_no_pair {order = order} {policy = policy} {codings = codings} {puts = puts} {old = old} {pair = pair} {from = from} {to = to} {status = status} unbroken refused still why unset =
    record {
      refused = refused;
      still = still;
      cause = inr (unbroken, why);
      sink = tries_taken order policy codings old puts pair from status to why;
      unset = λ _. unset;
      broken = λ broken. absurd (broken_clash broken unbroken);
    }
