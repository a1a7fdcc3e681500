-- What files say of the store of a state that they represent, and that each reason for which an
-- opening of them may fail is a cause of the machine.
use Rattle.std.specs.Prelude.{map}
use Rattle.std.specs.Str.{bytes_eq}
use Rattle.std.specs.Cmp.Lexicographic.{bytes_decides}
use Rattle.std.specs.declared.cmp.Ordering.{Ordering}
use Rattle.std.proofs.Common.{◌≡◌, ◌≢◌, ◌+◌, ◌⊎◌, ◌∙◌, ⊎_elim, inl, inr, ℕ, Bool, true, false, List, refl, sym, ap, subst, None, Some, IsTrue}
use Rattle.leveldb_base.specs.Entries.{internal_pair}
use Rattle.leveldb_base.specs.Error.{IsOutOfMemory, text_of}
use Rattle.leveldb_base.specs.History.{History, count_of, with_batch}
use Rattle.leveldb_base.specs.declared.cmp.Cmp.{Ghosts as CmpGhosts}
use Rattle.leveldb_base.specs.declared.error.Status.{Status}
use Rattle.leveldb_base.specs.declared.error.StatusCode.TheVariants.{NotSupported}
use Rattle.leveldb_env.specs.Env.{Disk, Files}
use Rattle.leveldb_env.specs.declared.env.Env.{Ghosts}
use Rattle.leveldb_env.specs.declared.filter.FilterPolicy.{Ghosts as FilterGhosts}
use Rattle.leveldb_mem.specs.WriteBatch.{Batch}
use Rattle.leveldb_files.proofs.Stores.ManifestLemmas.{managed_of}
use Rattle.leveldb_files.proofs.Histories.SafeLemmas.{some_is}
use Rattle.leveldb_files.specs.Stores.Contents.{Contents, Store, made, missing}
use Rattle.leveldb_files.specs.Histories.Holds.{Carries}
use Rattle.leveldb_files.specs.Stores.Paths.{current_path}
use Rattle.leveldb_files.specs.Stores.Store.{HasEdits, IsStore}
use Rattle.leveldb_files.specs.Edits.Edit.{Edit}
use Rattle.leveldb_files.specs.Edits.VersionSet.{live_after}
use Rattle.leveldb_store.proofs.Tables.NotBuiltLemmas.{not_built_causes}
use Rattle.leveldb_store.specs.Tables.BuildTable.{TableChoices}
use Rattle.leveldb_store.specs.Logs.FoundLogs.{FailsToKeep, HasLogNotKept}
use Rattle.leveldb_files.specs.Stores.Format.{Agrees, Format, HasCompressorError, IsTableOf, Meaning}
use Rattle.leveldb_store.specs.Openings.OpensStore.{HasOtherComparator, IsOrderFor}
use Rattle.rusty_leveldb.specs.Machines.Causes.{Cause, IsCausedBy, Disagrees, Exists, Setting, bad_operand, compressor_failed, lock_is_held, out_of_memory, store_exists, too_large}
use Rattle.rusty_leveldb.specs.Engines.Engine.{IsOpening}
use Rattle.rusty_leveldb.specs.Engines.Serves.{Reads, StandsFor, order_of, refusal_of}
use Rattle.rusty_leveldb.specs.Machines.State.{Opening, State, open_store}
use Rattle.rusty_leveldb.specs.Openings.Unopened.{IsLockGivenBack, IsNotKeptUnder, OpenExcused, OpenExcusedOr}

-- contents that are read of files, whose store is this one
pub record Found (store : List ℕ) (meaning : Meaning) (files : Files) (there : Store) : Type 0 where
  pub contents : Contents
  pub read : Reads store meaning files contents
  pub store_is : contents.store ≡ there

-- of a disk that represents a state its store is read
pub found_in : (store : List ℕ) (meaning : Meaning) (disk : Disk) (old : State)
    → StandsFor store meaning disk old → Found store meaning disk.files old.store
found_in store meaning disk old stands =
    ⊎_elim (of old.history) (of (with_batch old.history old.pending)) stands.holds.now
  where
    of : (history : History)
        → Carries store (Reads store meaning) (λ now. now ≡ old.store)
        (old.last + count_of old.pending) history disk.files
        → Found store meaning disk.files old.store
    of history c = record { contents = c.contents; read = c.read; store_is = c.matches.store }

module _ (store : List ℕ) (meaning : Meaning) (files : Files) (there : Store)
    (found : Found store meaning files there) where
  -- without `CURRENT` no store is there
  pub missing_if : files (current_path store) ≡ None → there ≡ missing
  missing_if none = by found.read
    where
      by : Reads store meaning files found.contents → there ≡ missing
      by (inl bare) = sym found.store_is ∙ ap (λ (c : Contents). c.store) bare.1
      by (inr m) = absurd (let never : None ≡ Some m.has_edits.current = sym none
          ∙ m.has_edits.current_there in cc)

  -- and with it one is
  pub there_if : files (current_path store) ≢ None → there ≢ missing
  there_if some gone = by found.read
    where
      by : Reads store meaning files found.contents → ⊥
      by (inl bare) = some bare.0.no_current
      by (inr m) = let never : made (Some m.managed.comparator) ≡ missing =
          sym (ap (λ (c : Contents). c.store) m.managed.is) ∙ found.store_is ∙ gone in cc

-- ---- what a store's opening says of the files

module _ (store : List ℕ) (format : Format) (files : Files) (meaning : Meaning)
    (same : format.order ≡ meaning.orders format.order_name) (contents : Contents) where
  -- what is read is a store, in an order in which it may be read
  pub in_order : Reads store meaning files contents → (order : List ℕ → List ℕ → Ordering)
      × IsOrderFor store format contents.store order
      × IsStore store order (IsTableOf order meaning) files contents
  in_order (inl bare) = (format.order, inl refl, inl bare)
  in_order (inr m) = named (bytes_eq m.managed.comparator format.order_name) refl
    where
      here : contents.store ≡ made (Some m.managed.comparator)
      here = ap (λ (c : Contents). c.store) m.managed.is

      named : (b : Bool) → bytes_eq m.managed.comparator format.order_name ≡ b
          → (order : List ℕ → List ℕ → Ordering) × IsOrderFor store format contents.store order
          × IsStore store order (IsTableOf order meaning) files contents
      named true e =
          let is = (bytes_decides m.managed.comparator format.order_name).0 e in (
            order_of meaning contents.store,
            inl (ap (order_of meaning) (here ∙ ap (λ (n : List ℕ). made (Some n)) is) ∙ sym same),
            inr m,
          )
      named false e = (
        order_of meaning contents.store,
        inr (
          m.managed.comparator,
          here,
          λ is.
              let never : true ≡ false = sym ((bytes_decides m.managed.comparator
              format.order_name).1 is) ∙ e in cc,
        ),
        inr m,
      )

-- files whose manifest names a comparator are a store of it
pub comparator_there : (store : List ℕ) (meaning : Meaning) (files : Files) (there : Store)
    → Found store meaning files there → (edits : List Edit) → HasEdits store files edits
    → (name : List ℕ) → (live_after edits).comparator ≡ Some name → there ≡ made (Some name)
comparator_there store meaning files there found edits has name is =
    let order = order_of meaning found.contents.store in
    let by = managed_of store order (IsTableOf order meaning) files edits found.contents has
    found.read in
    sym found.store_is ∙ ap (λ (c : Contents). c.store) by.is
    ∙ ap (λ (n : List ℕ). made (Some n)) (some_is by.comparator name (sym by.comparator_is ∙ is))

-- ---- causes

pub not_true : (b : Bool) → (IsTrue b → ⊥) → b ≡ false
not_true true never = absurd (never refl)
not_true false never = refl

-- why a log's batches aren't kept: three causes
pub not_kept_causes : {D P : Type 0} {keys : CmpGhosts D} {key_filters : FilterGhosts P}
    (choices : TableChoices keys key_filters) (batches : List Batch) (status : Status)
    → FailsToKeep choices batches status
    → IsOutOfMemory status ⊎ (status.code ≡ NotSupported)
    ⊎ HasCompressorError choices.format status.code
not_kept_causes choices batches status (inl large) = inr (inl large.code)
not_kept_causes choices batches status (inr (entries, are, not)) =
    not_built_causes choices (map internal_pair entries) status not

-- so an opening is excused, and its lock given back, where only the format is known
module _ {E F D P : Type 0} (env : Ghosts E F) (store : List ℕ) {keys : CmpGhosts D}
    {key_filters : FilterGhosts P} (choices : TableChoices keys key_filters) (asked : Opening)
    (same : choices.format ≡ asked.format) (from : E) (e : Status) where
  excused_under : OpenExcused env store choices asked from e
      → OpenExcusedOr env store asked from (IsNotKeptUnder asked.format) e
  excused_under (inl memory) = inl memory
  excused_under (inr (inl badly)) = inr (inl badly)
  excused_under (inr (inr (inl held))) = inr (inr (inl held))
  excused_under (inr (inr (inr (inl forbidden)))) = inr (inr (inr (inl forbidden)))
  excused_under (inr (inr (inr (inr (inl others))))) = inr (inr (inr (inr (inl others))))
  excused_under (inr (inr (inr (inr (inr (inl damage)))))) =
      inr (inr (inr (inr (inr (inl damage)))))
  excused_under (inr (inr (inr (inr (inr (inr (inl unset))))))) =
      inr (inr (inr (inr (inr (inr (inl unset))))))
  excused_under (inr (inr (inr (inr (inr (inr (inr (inl not)))))))) =
      inr (inr (inr (inr (inr (inr (inr (inl not)))))))
  excused_under (inr (inr (inr (inr (inr (inr (inr (inr log)))))))) =
      inr (inr (inr (inr (inr (inr (inr (inr (subst (λ f. IsNotKeptUnder f e) same
      (not_kept_causes choices log.batches e log.fails)))))))))

  pub given_back_under : (to : E)
      → IsLockGivenBack env store asked from
      (HasLogNotKept choices env.models_disk store (env.observed from).disk.files) to e
      → IsLockGivenBack env store asked from (IsNotKeptUnder asked.format) to e
  given_back_under to (inl still) = inl still
  given_back_under to (inr kept) = inr (record {
    held = kept.held;
    mid = kept.mid;
    later = kept.later;
    time = kept.time;
    ended = ⊎_elim (λ (why : OpenExcused env store choices asked from e). inl (excused_under why))
        (λ counted. inr counted) kept.ended;
    unlock = kept.unlock;
  })

module _ {E F : Type 0} (env : Ghosts E F) (store : List ℕ) (meaning : Meaning)
    (asked opening : Opening) (is : IsOpening store asked opening)
    (agrees : Agrees opening.format meaning) (from : E) (modelled : IsTrue env.models_disk)
    (old : State) (stands : StandsFor store meaning (env.observed from).disk old)
    (setting : Setting) (e : Status) where
  abbrev HasCause : Type 0
  HasCause = (cause : Cause) × IsCausedBy setting old (open_store opening) (refusal_of e) cause

  same_format : opening.format ≡ asked.format
  same_format = ap (λ (o : Opening). o.format) is.same

  same_order : asked.format.order ≡ meaning.orders asked.format.order_name
  same_order = subst (λ (f : Format). f.order ≡ meaning.orders f.order_name) same_format
      agrees.order

  abbrev files : Files
  files = (env.observed from).disk.files

  found : Found store meaning files old.store
  found = found_in store meaning (env.observed from).disk old stands

  pub unwanted : IsTrue asked.error_if_exists → files (current_path store) ≢ None
      → Exists old (open_store opening)
  unwanted wanted there = (
    subst IsTrue (sym (ap (λ (o : Opening). o.error_if_exists) is.same)) wanted,
    there_if store meaning files old.store found there,
  )

  pub lacking : asked.create_if_missing ≡ false → files (current_path store) ≡ None
      → Disagrees opening old.store
  lacking makes_none none = subst (Disagrees opening)
      (sym (missing_if store meaning files old.store found none))
      (ap (λ (o : Opening). o.create_if_missing) is.same ∙ makes_none)

  pub other : HasOtherComparator store asked.format files → Disagrees opening old.store
  other one = subst (Disagrees opening)
      (sym (comparator_there store meaning files old.store found one.edits one.has_edits one.name
      one.named))
      (λ named. one.other (some_is one.name asked.format.order_name
      (named ∙ ap (λ (f : Format). Some f.order_name) same_format)))

  -- each reason is a cause
  module _ {D P : Type 0} {keys : CmpGhosts D} {key_filters : FilterGhosts P}
      (choices : TableChoices keys key_filters) (same : choices.format ≡ asked.format) where
    pub open_cause : OpenExcused env store choices asked from e → HasCause
    open_cause (inl memory) = (out_of_memory, (tt, memory.0, ap text_of memory.1))
    open_cause (inr (inl badly)) = (
      bad_operand,
      (badly.0, inl (not_true opening.fits (λ fits. badly.1 (is.fits.0 fits)))),
    )
    open_cause (inr (inr (inl held))) =
        (lock_is_held, (tt, held.0, subst IsTrue stands.locked (held.1 modelled)))
    open_cause (inr (inr (inr (inl (inl there))))) =
        (store_exists, (there.0, unwanted there.1 (there.2 modelled)))
    open_cause (inr (inr (inr (inl (inr none))))) =
        (bad_operand, (none.0, inr (lacking none.1 (none.2 modelled))))
    open_cause (inr (inr (inr (inr (inl others))))) =
        (bad_operand, (others.0, inr (other (others.1 modelled))))
    open_cause (inr (inr (inr (inr (inr (inl damage)))))) =
        let read = in_order store asked.format files meaning same_order found.contents found.read in
        absurd (damage.1 modelled meaning read.0 found.contents read.1 read.2)
    open_cause (inr (inr (inr (inr (inr (inr (inl unset))))))) = (too_large, (tt, unset.0))
    open_cause (inr (inr (inr (inr (inr (inr (inr (inl not)))))))) = (too_large, (tt, not.0))
    open_cause (inr (inr (inr (inr (inr (inr (inr (inr log)))))))) =
        ⊎_elim (λ (memory : IsOutOfMemory e). (out_of_memory, (tt, memory.0, ap text_of memory.1)))
        (λ other. ⊎_elim (λ (code : e.code ≡ NotSupported). (too_large, (tt, code)))
        (λ fails. (
          compressor_failed,
          subst (λ (f : Format). HasCompressorError f e.code) (same ∙ sym same_format) fails,
        )) other) (not_kept_causes choices log.batches e log.fails)
