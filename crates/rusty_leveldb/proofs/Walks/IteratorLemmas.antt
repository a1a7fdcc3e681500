-- What becomes of an iterator that is moved.
use Rattle.std.specs.Prelude.{IfErr, MatchResult, OnErr, OnOk, Result, Ok, Err}
use Rattle.std.proofs.Common.{◌≡◌, ◌≤◌, ◌<◌, ◌^◌, ◌-◌, ◌⊎◌, ⊎_elim, inl, inr, ℕ, List, refl, ap, ◌∙◌, arith, Option, None}
use Rattle.std.specs.declared.cmp.Ordering.{Ordering}
use Rattle.leveldb_base.specs.Error.{IsOutOfMemory}
use Rattle.leveldb_base.specs.Types.{Pair}
use Rattle.leveldb_base.specs.declared.cmp.Cmp.{Ghosts as CmpGhosts}
use Rattle.leveldb_base.specs.declared.error.Status.{Status}
use Rattle.leveldb_env.specs.Compressor.{Codings}
use Rattle.leveldb_env.specs.declared.env.Env.{Ghosts}
use Rattle.leveldb_env.specs.declared.filter.FilterPolicy.{Ghosts as FilterGhosts}
use Rattle.leveldb_iter.specs.Walk.{KeyOrder, MovesWalk, Resets, WalkLaws}
use Rattle.leveldb_iter.specs.declared.walk.Walk.{Ghosts as WalkGhosts}
use Rattle.leveldb_files.specs.Stores.Format.{Format, IsTableFault}
use Rattle.leveldb_version.specs.Tables.TableCache.{TableOptions}
use Rattle.leveldb_version.specs.Walks.VersionIter.{KeepsReading}
use Rattle.leveldb_version.specs.Walks.VersionIterLaws.{reading_kept_on}
use Rattle.leveldb_version.specs.declared.table_cache.moves.ReadTables.{ReadTables}
use Rattle.leveldb_store.specs.Writing.Room.{HasFailed}
use Rattle.leveldb_store.specs.Reading.View.{FailsBetween, ReadsAlone, any_in_order, options_in}
use Rattle.rusty_leveldb.specs.Engines.Boxes.{InternalOrder}
use Rattle.rusty_leveldb.specs.Walks.Iterator.{IteratorFails, IsIterator, IsUnsupportedIn, IteratesAt, MoveRule, MovesIterator, ShownStore, no_cause, world_in}
use Rattle.rusty_leveldb.specs.declared.db_iter.StoreIterator.{StoreIterator}

-- a count that has reached its bound stays there
full_stays : (from to : ℕ) → from ≤ to → to < 2 ^ 64 → (from < from) ⊎ (from ≡ 2 ^ 64 - 1) → to ≡ 2 ^ 64 - 1
full_stays from to later fits full = ⊎_elim
    (λ (less : from < from). absurd (omega (arith, less)))
    (λ (most : from ≡ 2 ^ 64 - 1). omega (arith, most, later, fits))
    full

module _ {E F C FP K V : Type 0} (keys : InternalOrder C) (env : Ghosts E F) (fits : (e : E) → env.failures e < 2 ^ 64)
    (cmp : CmpGhosts C) (filters : FilterGhosts FP) (codings : K → Codings)
    (walk : WalkGhosts V E (ReadTables E C FP K F)) where
  -- what becomes of an iterator, wherever it is led
  pub record LeavesIterator (old new : StoreIterator E C FP K V F) : Type 0 where
    pub keeps : WalkLaws walk.over walk.is_at walk.here walk.fails walk.keeps → walk.keeps (world_in old) (world_in new)
    pub excuses : (later : E × ReadTables E C FP K F) (status : Status) → walk.fails (world_in new) new.view later status
        → walk.fails (world_in old) old.view later status
    pub reference : new.env.ghost_name ≡ old.env.ghost_name

  module _ (old new : StoreIterator E C FP K V F) (leaves : LeavesIterator old new) where
    -- the causes of its errors stay
    causes_stay : ReadsAlone keys env cmp filters codings walk → WalkLaws walk.over walk.is_at walk.here walk.fails walk.keeps → (Why : Status → Type 0)
        → ((to : E × ReadTables E C FP K F) (status : Status) → walk.fails (world_in old) old.view to status → FailsBetween env (world_in old) to Why status)
        → (to : E × ReadTables E C FP K F) (status : Status) → walk.fails (world_in new) new.view to status → FailsBetween env (world_in new) to Why status
    causes_stay reads laws Why why to status fails =
        let rises = (reads.leaves (world_in old) (world_in new) (leaves.keeps laws)).tables.later in ⊎_elim
        (λ (out : IsOutOfMemory status). inl out)
        (⊎_elim
        (λ (failed : HasFailed (env.failures new.env.now) (env.failures to.0)). inr (inl failed))
        (λ (ever : (other : E × ReadTables E C FP K F) → walk.fails (world_in new) new.view other status). ⊎_elim
        (λ (out : IsOutOfMemory status). inl out)
        (⊎_elim
        (λ (full : HasFailed (env.failures old.env.now) (env.failures old.env.now)).
        inr (inl (inr (full_stays (env.failures old.env.now) (env.failures new.env.now) rises (fits new.env.now) full))))
        (λ own. inr (inr own)))
        (why (world_in old) status (leaves.excuses (world_in old) status (ever (world_in old))))))
        (reads.counts (world_in new) to new.view status fails)

    -- what tables are opened with stays
    options_stay : KeepsReading keys env cmp filters codings (world_in old) (world_in new)
        → options_in env cmp filters codings (world_in new) ≡ options_in env cmp filters codings (world_in old)
    options_stay kept = rw (kept.cmp_stays, kept.policy_stays, kept.compressors_stay) refl

    stays_iterator : (format : Format) → IsIterator keys env cmp filters codings walk format old → IsIterator keys env cmp filters codings walk format new
    stays_iterator format is = record {
      format_is = ap (λ (o : TableOptions C FP). o.format) (options_stay (is.reads.leaves (world_in old) (world_in new) (leaves.keeps is.laws))) ∙ is.format_is;
      fails = causes_stay is.reads is.laws (λ e. IsTableFault format e.code) is.fails;
      reads = is.reads;
      laws = is.laws;
    }

    module _ (shown : ShownStore C) (pairs : List Pair) (position next : Option ℕ) where
      stays_at : IteratesAt keys env cmp filters codings walk shown pairs position old
          → walk.is_at (world_in new) new.view (any_in_order shown.format.order) pairs next
          → IteratesAt keys env cmp filters codings walk shown pairs next new
      stays_at at is_at = record {
        is_iterator = stays_iterator shown.format at.is_iterator;
        is_at = is_at;
        pair_is = at.is_iterator.laws.at_position (world_in new) new.view (any_in_order shown.format.order) pairs next is_at;
        fails = causes_stay at.is_iterator.reads at.is_iterator.laws (IsUnsupportedIn shown) at.fails;
        has_open = at.is_iterator.reads.stays shown.value (world_in old) (world_in new) (leaves.keeps at.is_iterator.laws) at.has_open;
      }

  -- an error of the walk below, out of memory, or for a cause of its own
  abbrev pub FailsOwn : (Status → Type 0) → StoreIterator E C FP K V F → StoreIterator E C FP K V F → Status → Type 0
  FailsOwn Own old new status = walk.fails (world_in old) old.view (world_in new) status ⊎ IsOutOfMemory status ⊎ Own status

  module _ (Own Why : Status → Type 0) (old new : StoreIterator E C FP K V F)
      (why : (to : E × ReadTables E C FP K F) (status : Status) → walk.fails (world_in old) old.view to status → FailsBetween env (world_in old) to Why status) where
    -- its cause
    cause_of : (status : Status) → FailsOwn Own old new status → IteratorFails env Own Why old new status
    cause_of status fails = ⊎_elim
        (λ (below : walk.fails (world_in old) old.view (world_in new) status). ⊎_elim
        (λ (out : IsOutOfMemory status). inl out)
        (⊎_elim
        (λ (failed : HasFailed (env.failures old.env.now) (env.failures new.env.now)). inr (inl failed))
        (λ (own : Why status). inr (inr (inr own))))
        (why (world_in new) status below))
        (⊎_elim (λ (out : IsOutOfMemory status). inl out) (λ (own : Own status). inr (inr (inl own))))
        fails

  -- a move, by where it leads
  module _ {R : Type 0} (Own : Status → Type 0) (way : MoveRule)
      (old new : StoreIterator E C FP K V F) (leaves : LeavesIterator old new) where
    abbrev Ok_leads : Result R Status → Type 0
    Ok_leads r = WalkLaws walk.over walk.is_at walk.here walk.fails walk.keeps → (order : List ℕ → List ℕ → Ordering) (pairs : List Pair) (position : Option ℕ)
        → walk.is_at (world_in old) old.view (any_in_order order) pairs position
        → OnOk r (walk.is_at (world_in new) new.view (any_in_order order) pairs (way order pairs position))

    abbrev Err_leads : Result R Status → Type 0
    Err_leads r = WalkLaws walk.over walk.is_at walk.here walk.fails walk.keeps → (order : List ℕ → List ℕ → Ordering) (pairs : List Pair) (position : Option ℕ)
        → walk.is_at (world_in old) old.view (any_in_order order) pairs position
        → OnErr r (walk.is_at (world_in new) new.view (any_in_order order) pairs None)

    moves_in : (r : Result R Status) → Ok_leads r → Err_leads r → IfErr r (FailsOwn Own old new)
        → (shown : ShownStore C) (pairs : List Pair) (position : Option ℕ)
        → IteratesAt keys env cmp filters codings walk shown pairs position old → MatchResult r
        (λ _. IteratesAt keys env cmp filters codings walk shown pairs (way shown.format.order pairs position) new)
        (λ e. IteratesAt keys env cmp filters codings walk shown pairs None new
        × IteratorFails env Own (IsUnsupportedIn shown) old new e)
    moves_in (Ok done) ok err cause shown pairs position at =
        stays_at old new leaves shown pairs position (way shown.format.order pairs position) at (ok at.is_iterator.laws shown.format.order pairs position at.is_at)
    moves_in (Err e) ok err cause shown pairs position at = (
      stays_at old new leaves shown pairs position None at (err at.is_iterator.laws shown.format.order pairs position at.is_at),
      cause_of Own (IsUnsupportedIn shown) old new at.fails e cause,
    )

    stays_in : (r : Result R Status) → IfErr r (FailsOwn Own old new) → (format : Format) → IsIterator keys env cmp filters codings walk format old
        → IsIterator keys env cmp filters codings walk format new × IfErr r (IteratorFails env Own (λ e. IsTableFault format e.code) old new)
    stays_in (Ok done) cause format is = (stays_iterator old new leaves format is, tt)
    stays_in (Err e) cause format is = (
      stays_iterator old new leaves format is,
      cause_of Own (λ e. IsTableFault format e.code) old new is.fails e cause,
    )

    pub moved_so : (r : Result R Status) → Ok_leads r → Err_leads r → OnErr r (walk.here new.view ≡ None) → IfErr r (FailsOwn Own old new)
        → MovesIterator keys env cmp filters codings walk Own way old r new
    moved_so r ok err none cause = record {
      moves = moves_in r ok err cause;
      stays = stays_in r cause;
      keeps = λ format is. is.reads.leaves (world_in old) (world_in new) (leaves.keeps is.laws);
      none = none;
      reference = leaves.reference;
    }

  -- a move of the view below, from where it leads
  module _ {R : Type 0} (Own : Status → Type 0) (way : MoveRule)
      (old new : StoreIterator E C FP K V F) (reference : new.env.ghost_name ≡ old.env.ghost_name)
      (From : E × ReadTables E C FP K F → V → KeyOrder → List Pair → Option ℕ → Type 0)
      (from_position : WalkLaws walk.over walk.is_at walk.here walk.fails walk.keeps → (order : List ℕ → List ℕ → Ordering) (pairs : List Pair) (position : Option ℕ)
      → walk.is_at (world_in old) old.view (any_in_order order) pairs position
      → From (world_in old) old.view (any_in_order order) pairs position) where
    below_cause : (r : Result R Status) → IfErr r (walk.fails (world_in old) old.view (world_in new)) → IfErr r (FailsOwn Own old new)
    below_cause (Ok done) cause = tt
    below_cause (Err e) cause = inl cause

    pub moved : (r : Result R Status)
        → MovesWalk walk.over walk.is_at walk.here walk.fails walk.keeps From (λ (order : KeyOrder). way order.cmp) (world_in old) old.view r (world_in new) new.view
        → MovesIterator keys env cmp filters codings walk Own way old r new
    moved r moves = moved_so Own way old new (record { keeps = λ laws. moves.kept; excuses = moves.excuses; reference = reference }) r
        (λ laws order pairs position at. moves.ok (any_in_order order) pairs position (from_position laws order pairs position at))
        (λ laws order pairs position at. moves.err (any_in_order order) pairs (laws.over_list (world_in old) old.view (any_in_order order) pairs position at))
        moves.none (below_cause r moves.cause)

  -- a move to no position
  pub moved_off : {R : Type 0} (old : StoreIterator E C FP K V F) (view : V)
      → Resets walk.over walk.is_at walk.here walk.fails walk.keeps old.view view → (r : R)
      → MovesIterator keys env cmp filters codings walk no_cause (λ _ _ _. None) old (Ok r) (record old { view = view })
  moved_off old view resets r = moved_so no_cause (λ _ _ _. None) old (record old { view = view })
      (record { keeps = λ laws. laws.keeps_itself (world_in old); excuses = resets.excuses (world_in old); reference = refl })
      (Ok r)
      (λ laws order pairs position at. resets.at_none (world_in old) (any_in_order order) pairs (laws.over_list (world_in old) old.view (any_in_order order) pairs position at))
      (λ laws order pairs position at. tt) tt tt

  module _ {Q R : Type 0} (Own : Status → Type 0) (way : MoveRule) where
    -- a move whose result is another one's
    pub moves_ok : (old new : StoreIterator E C FP K V F) (q : Q) (r : R)
        → MovesIterator keys env cmp filters codings walk Own way old (Ok q) new → MovesIterator keys env cmp filters codings walk Own way old (Ok r) new
    moves_ok old new q r moves = record {
      moves = moves.moves;
      stays = moves.stays;
      keeps = moves.keeps;
      none = tt;
      reference = moves.reference;
    }

    pub moves_err : (old new : StoreIterator E C FP K V F) (e : Status)
        → MovesIterator keys env cmp filters codings walk {R = Q} Own way old (Err e) new → MovesIterator keys env cmp filters codings walk {R = R} Own way old (Err e) new
    moves_err old new e moves = record {
      moves = moves.moves;
      stays = moves.stays;
      keeps = moves.keeps;
      none = moves.none;
      reference = moves.reference;
    }

    -- a move that fails out of memory, once it is done
    pub moves_lost : {S : Type 0} (old mid new : StoreIterator E C FP K V F) (q : Q) (s : S)
        → MovesIterator keys env cmp filters codings walk Own way old (Ok q) mid
        → MovesIterator keys env cmp filters codings walk no_cause (λ _ _ _. None) mid (Ok s) new → walk.here new.view ≡ None
        → (e : Status) → IsOutOfMemory e → MovesIterator keys env cmp filters codings walk {R = R} Own way old (Err e) new
    moves_lost old mid new q s moves leaves none e out = record {
      moves = λ shown pairs position at.
          (leaves.moves shown pairs (way shown.format.order pairs position) (moves.moves shown pairs position at), inl out);
      stays = λ format is. ((leaves.stays format (moves.stays format is).0).0, inl out);
      keeps = λ format is. reading_kept_on (world_in old) (world_in mid) (world_in new) (moves.keeps format is) (leaves.keeps format (moves.stays format is).0);
      none = none;
      reference = leaves.reference ∙ moves.reference;
    }

    -- a move that fails for a cause of its own
    pub moves_refused : (old new : StoreIterator E C FP K V F) (q : Q)
        → MovesIterator keys env cmp filters codings walk no_cause (λ _ _ _. None) old (Ok q) new → walk.here new.view ≡ None
        → (e : Status) → Own e → MovesIterator keys env cmp filters codings walk {R = R} Own way old (Err e) new
    moves_refused old new q leaves none e own = record {
      moves = λ shown pairs position at.
          (leaves.moves shown pairs position at, inr (inr (inl own)));
      stays = λ format is. ((leaves.stays format is).0, inr (inr (inl own)));
      keeps = leaves.keeps;
      none = none;
      reference = leaves.reference;
    }
