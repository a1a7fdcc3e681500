-- From the record of an iterator's call to what it says in the words of the headline.
use Rattle.std.proofs.Common.{◌≡◌, inl, inr, ℕ, List, [], refl, sym, ◌∙◌, ap, subst, arith, Option, None, Ok, Err, Contains}
use Rattle.std.specs.Prelude.{MatchResult, Result}
use Rattle.std.specs.declared.cmp.Ordering.{Ordering}
use Rattle.leveldb_base.specs.History.{IsView, entries_of}
use Rattle.leveldb_base.specs.Types.{Pair}
use Rattle.leveldb_base.specs.declared.cmp.Cmp.{Ghosts as CmpGhosts}
use Rattle.leveldb_base.specs.declared.error.Status.{Status}
use Rattle.leveldb_base.specs.declared.error.StatusCode.TheVariants.{InvalidArgument}
use Rattle.leveldb_env.specs.Compressor.{Codings}
use Rattle.leveldb_env.specs.Options.{Boxed}
use Rattle.leveldb_env.specs.declared.compressor.CompressorList.{CompressorList}
use Rattle.leveldb_env.specs.declared.env.Env.{Ghosts}
use Rattle.leveldb_env.specs.declared.filter.FilterPolicy.{Ghosts as FilterGhosts}
use Rattle.leveldb_iter.specs.declared.walk.Walk.{Ghosts as WalkGhosts}
use Rattle.leveldb_files.specs.Stores.Format.{Meaning}
use Rattle.leveldb_version.specs.declared.table_cache.moves.ReadTables.{ReadTables}
use Rattle.rusty_leveldb.specs.Headline as headline
use Rattle.rusty_leveldb.specs.Headline.{UserStore, StoreMode, is_open, is_broken, is_closed, map_of, WalkMove, moved_to, Why, CallOutcome, CallRow, read_causes}
use Rattle.rusty_leveldb.specs.Engines.Boxes.{EngineOf, InternalOrder}
use Rattle.rusty_leveldb.specs.Engines.Engine.{IsClosed, WalkExcused}
use Rattle.rusty_leveldb.specs.Engines.Witness.{iterating_in, shown_by}
use Rattle.rusty_leveldb.specs.Machines.Shown.{HasCode, HasFault, snapshot_number, store_mode_of}
use Rattle.rusty_leveldb.specs.Machines.State.{Mode, Snapshot, open_mode, broken, closed}
use Rattle.rusty_leveldb.specs.Says.{IsFailure, SaysIterated, SaysMoved, SaysPair}
use Rattle.rusty_leveldb.specs.Walks.Iterator.{EngineIterates, IteratesAt, IteratorFails, IsUnsupportedIn, MoveRule, MovesIterator, ShownStore, pair_in, shown_store}
use Rattle.rusty_leveldb.specs.declared.db_iter.StoreIterator.{StoreIterator}
use Rattle.rusty_leveldb.proofs.Headline.ShownLemmas.{reads_map}
use Rattle.rusty_leveldb.proofs.Headline.WalkRowLemmas.{listing}

-- ---- moves

module _ {E F C FP K V : Type 0} (env : Ghosts E F) (Own : Status → Type 0)
    (old new : StoreIterator E C FP K V F) where
  -- why a move fails
  read_fails : ((status : Status) → Own status → status.code ≡ InvalidArgument)
      → (shown : ShownStore C) (status : Status)
      → IteratorFails env Own (IsUnsupportedIn shown) old new status
      → (why : Why) × Contains read_causes why × HasCode why status.code
      × HasFault (Unit {0}) (env.failures old.env.now) (env.failures new.env.now)
      (headline.failed why)
  read_fails own shown status (inl memory) =
      (headline.out_of_memory, (0, omega arith, refl), memory.0, tt)
  read_fails own shown status (inr (inl failed)) =
      (headline.device_failed, (1, omega arith, refl), tt, failed)
  read_fails own shown status (inr (inr (inl is))) =
      (headline.bad_argument, (2, omega arith, refl), own status is, tt)
  read_fails own shown status (inr (inr (inr lacks))) =
      (headline.not_supported, (3, omega arith, refl), lacks.0, tt)

module _ {E F C FP K V : Type 0} {keys : InternalOrder C} {env : Ghosts E F} {cmp : CmpGhosts C}
    {filters : FilterGhosts FP} {codings : K → Codings} {walk : WalkGhosts V E (ReadTables E C FP K F)}
    {Own : Status → Type 0} {old new : StoreIterator E C FP K V F} where
  pub move_says : {way : MoveRule} {R : Type 0} {result : Result R Status} (move : WalkMove)
      → ((order : List ℕ → List ℕ → Ordering) (pairs : List Pair) (position : Option ℕ)
      → way order pairs position ≡ moved_to order pairs position move)
      → ((status : Status) → Own status → status.code ≡ InvalidArgument)
      → MovesIterator keys env cmp filters codings walk Own way old result new
      → SaysMoved (iterating_in keys env cmp filters codings walk) move (env.failures old.env.now)
      old result (env.failures new.env.now) new
  move_says {way = way} {R = R} {result = result} move same own does order pairs position at =
      by result (does.moves at.0 pairs position at.1)
    where
      by : (result : Result R Status)
          → MatchResult result
          (λ _. IteratesAt keys env cmp filters codings walk at.0 pairs
          (way at.0.format.order pairs position) new)
          (λ e. IteratesAt keys env cmp filters codings walk at.0 pairs None new
          × IteratorFails env Own (IsUnsupportedIn at.0) old new e)
          → MatchResult result
          (λ _. iterating_in keys env cmp filters codings walk order pairs
          (moved_to order pairs position move) new)
          (λ status. iterating_in keys env cmp filters codings walk order pairs None new
          × (why : Why) × Contains read_causes why × HasCode why status.code
          × HasFault (Unit {0}) (env.failures old.env.now) (env.failures new.env.now)
          (headline.failed why))
      by (Ok value) is = (
        at.0,
        subst (λ p. IteratesAt keys env cmp filters codings walk at.0 pairs p new)
            (ap (λ o. way o pairs position) at.2 ∙ same order pairs position) is,
        at.2,
      )
      by (Err status) is =
          let fails = read_fails env Own old new own at.0 status is.1 in
          ((at.0, is.0, at.2), fails.0, fails.1, fails.2, fails.3)

module _ {E F C FP K V : Type 0} {keys : InternalOrder C} {env : Ghosts E F} {cmp : CmpGhosts C}
    {filters : FilterGhosts FP} {codings : K → Codings} {walk : WalkGhosts V E (ReadTables E C FP K F)}
    (it : StoreIterator E C FP K V F) (found : Option Pair) where
  pub pair_says : found ≡ pair_in walk it
      → SaysPair (iterating_in keys env cmp filters codings walk) it found
  pair_says is order pairs position at = is ∙ at.1.pair_is

-- ---- calls that make one

-- a store is closed if its state is
pub is_closed_state : (mode : Mode) → store_mode_of mode ≡ is_closed → mode ≡ closed
is_closed_state closed is = refl
is_closed_state open_mode is = absurd (cc)
is_closed_state broken is = absurd (cc)

same_cause : (one two : Why) → headline.failed one ≡ headline.failed two → one ≡ two
same_cause one two e = cc

-- why a walk fails, but not by the device or a compressor
abbrev IsWhy : Status → Why → Type 0
IsWhy status why = Contains read_causes why × HasCode why status.code
    × (why ≡ headline.device_failed → ⊥) × (why ≡ headline.compressor_failed → ⊥)

-- a walk of no move that fails
abbrev FailsAsWalk : (List ℕ → List ℕ → Ordering) → UserStore → Option ℕ → Status → Meaning
    → StoreMode → Type 0
FailsAsWalk order store at status meaning mode = (outcome : CallOutcome)
    × IsFailure status meaning outcome
    × (outcome ≡ headline.failed headline.device_failed → ⊥)
    × CallRow order mode store (headline.walk at []) outcome store

fails_for : (order : List ℕ → List ℕ → Ordering) (store : UserStore) (at : Option ℕ)
    (status : Status) (meaning : Meaning) (mode : StoreMode) → (mode ≡ is_closed → ⊥)
    → (why : Why) × IsWhy status why → FailsAsWalk order store at status meaning mode
fails_for order store at status meaning is_closed open_so why = absurd (open_so refl)
fails_for order store at status meaning is_open open_so why = (
  headline.failed why.0,
  (why.1.1, λ is. absurd (why.1.3 (same_cause why.0 headline.compressor_failed is))),
  λ is. why.1.2 (same_cause why.0 headline.device_failed is),
  (why.1.0, refl),
)
fails_for order store at status meaning is_broken open_so why = (
  headline.failed why.0,
  (why.1.1, λ is. absurd (why.1.3 (same_cause why.0 headline.compressor_failed is))),
  λ is. why.1.2 (same_cause why.0 headline.device_failed is),
  (why.1.0, refl),
)

walk_fails : (order : List ℕ → List ℕ → Ordering) (store : UserStore) (mode : StoreMode)
    (at : Option ℕ) (status : Status) (meaning : Meaning)
    → (mode ≡ is_closed → status.code ≡ InvalidArgument)
    → ((mode ≡ is_closed → ⊥) → (why : Why) × IsWhy status why)
    → FailsAsWalk order store at status meaning mode
walk_fails order store is_closed at status meaning barred other = (
  headline.barred is_closed,
  (barred refl, λ is. absurd (cc)),
  (λ is. absurd (cc)),
  (refl, refl),
)
walk_fails order store is_open at status meaning barred other =
    let open_so : is_open ≡ is_closed → ⊥ = λ never. absurd (cc) in
    fails_for order store at status meaning is_open open_so (other open_so)
walk_fails order store is_broken at status meaning barred other =
    let open_so : is_broken ≡ is_closed → ⊥ = λ never. absurd (cc) in
    fails_for order store at status meaning is_broken open_so (other open_so)

-- why no walk is made in a store that isn't closed
walk_excused : {E C FP F : Type 0} {B : Boxed} (engine : EngineOf E C FP F B) (at : Option Snapshot)
    (status : Status) → (IsClosed engine.mode → ⊥) → WalkExcused engine at status
    → (why : Why) × IsWhy status why
walk_excused engine at status not_closed (inl refused) = absurd (not_closed refused.0)
walk_excused engine at status not_closed (inr (inl misfit)) = (
  headline.bad_argument,
  ((2, omega arith, refl), misfit.0, (λ never. absurd (cc)), (λ never. absurd (cc))),
)
walk_excused engine at status not_closed (inr (inr memory)) = (
  headline.out_of_memory,
  ((0, omega arith, refl), memory.0, (λ never. absurd (cc)), (λ never. absurd (cc))),
)

module _ {E C FP F V : Type 0} {B : Boxed} {keys : InternalOrder C} {env : Ghosts E F}
    {cmp : CmpGhosts C} {filters : FilterGhosts FP}
    {codings : CompressorList B.compressors B.compressor → Codings}
    {walk : WalkGhosts V E (ReadTables E C FP (CompressorList B.compressors B.compressor) F)}
    {before : EngineOf E C FP F B} {from : E} {at : Option Snapshot}
    {result : Result (StoreIterator E C FP (CompressorList B.compressors B.compressor) V F) Status}
  where
    pub iterate_says : EngineIterates keys env cmp filters codings walk before from at result
        → SaysIterated (iterating_in keys env cmp filters codings walk) env
        (shown_by keys env cmp filters codings) (λ it. it.env.now) before from (snapshot_number at)
        result
    iterate_says does modelled place order store shown = by result does
      where
        closed_too : store.mode ≡ is_closed → IsClosed before.mode
        closed_too is =
            shown.1.memory_is.mode ∙ is_closed_state shown.0.mode (sym shown.2.mode ∙ is)

        open_too : IsClosed before.mode → store.mode ≡ is_closed
        open_too is = shown.2.mode ∙ ap store_mode_of (sym shown.1.memory_is.mode ∙ is)

        by : (result : Result (StoreIterator E C FP (CompressorList B.compressors B.compressor) V F)
            Status)
            → EngineIterates keys env cmp filters codings walk before from at result
            → MatchResult result
            (λ it. (it.env.now ≡ from) × (store.mode ≡ is_closed → ⊥)
            × (batches : List headline.Batch)
            × (pairs : List Pair) × headline.IsShown store (snapshot_number at) batches
            × headline.IsListing order (map_of batches) pairs
            × iterating_in keys env cmp filters codings walk order pairs None it)
            (λ status. FailsAsWalk order store (snapshot_number at) status place.meaning store.mode)
        by (Ok it) does =
            let over = does.over modelled place.name place.meaning shown.0 shown.1 in
            let reads = reads_map shown.0 store shown.1.disk_is.is_state shown.2 at over.0 over.1 in (
              does.env_is,
              λ is. absurd (does.refused (inl (closed_too is))),
              reads.shown,
              over.2,
              reads.is,
              listing order (entries_of shown.0.history) over.0 over.2 (map_of reads.shown) reads.map
                  (subst (λ o. IsView o (entries_of shown.0.history) over.0 over.2) shown.3 over.3),
              (shown_store before.store shown.0.format place.meaning, over.4, shown.3),
            )
        by (Err status) does = walk_fails order store store.mode (snapshot_number at) status place.meaning
            (λ is. does.refused (inl (closed_too is)))
            (λ not_closed. walk_excused before at status (λ is. not_closed (open_too is)) does.cause)
