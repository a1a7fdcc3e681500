-- The laws of walks over found tables, and of the children of a repair's merge. They are in specs/
-- since their impls of `Walk` prove them by this, and the checker takes no term of proofs/ there.
use Rattle.std.specs.Prelude.{◌≤◌}
use Rattle.std.proofs.Common.{◌≡◌, ℕ, List, Option, None, Some, refl, sym, ◌∙◌, ap, subst, inl, inr, arith}
use Rattle.leveldb_base.specs.Types.{IsPosition, Pair, pair_at}
use Rattle.leveldb_base.specs.declared.cmp.Cmp.{Ghosts as CmpGhosts}
use Rattle.leveldb_base.specs.declared.cmp.internal.InternalKeyCmp.{InternalKeyCmp}
use Rattle.leveldb_base.specs.declared.error.Status.{Status}
use Rattle.leveldb_base.specs.declared.types.LdbIterator.{Ghosts as IteratorGhosts}
use Rattle.leveldb_env.specs.Compressor.{Codings}
use Rattle.leveldb_env.specs.declared.env.Env.{Ghosts as EnvGhosts}
use Rattle.leveldb_iter.specs.InMemory.{IsAloneOver}
use Rattle.leveldb_iter.specs.InMemoryLaws.{alone_laws}
use Rattle.leveldb_iter.specs.Walk.{IsSortedIn, KeyOrder, WalkLaws, key_order}
use Rattle.leveldb_iter.specs.declared.in_memory.InMemory.{InMemory}
use Rattle.leveldb_table.proofs.TableBlockLemmas.{FileHas-after, KeepsDisk-refl, KeepsDisk-trans}
use Rattle.leveldb_table.proofs.TableReaderWalkLemmas.{current_at, within_in}
use Rattle.leveldb_table.specs.BlockWalk.{position_over}
use Rattle.leveldb_table.specs.OpenTable.{file_of}
use Rattle.leveldb_table.specs.Table.{Part}
use Rattle.leveldb_table.specs.TableBlock.{HasLackCode}
use Rattle.leveldb_table.specs.TableReader.{pairs_in}
use Rattle.leveldb_table.specs.TableReaderWalk.{IsAtPairOrNone, inner_pairs, inner_position}
use Rattle.leveldb_repair.specs.FoundWalk.{FailsInWalk, IsWalkAt, IsWalkOver, walk_here}
use Rattle.leveldb_repair.specs.FoundWalkTable.{FailsBetweenOr, FailsInFound, IsFoundAt, IsFoundOver, IsFoundThere, IsNoNewTable, KeepsFound, found_here}
use Rattle.leveldb_repair.specs.FoundWalkOf.{FoundWalk}
use Rattle.leveldb_repair.specs.declared.found_walk.FoundWalk.TheVariants.{Memory, Table}
use Rattle.leveldb_repair.specs.declared.found_walk.files.ReadFiles.{ReadFiles}
use Rattle.leveldb_repair.specs.declared.found_walk.table.FoundTable.{FoundTable}

-- a position in a list that a walk over a table is at
in_range_of : (parts : List Part) (line : Option ℕ) (pairs : List Pair) (inner position : Option ℕ)
    → IsAtPairOrNone parts line pairs inner position → IsPosition (pairs_in parts) position
in_range_of parts line pairs inner None at = tt
in_range_of parts line pairs inner (Some n) at = within_in at

module _ {E F : Type 0} (env : EnvGhosts E F) where
  -- a reason between later environments is one between earlier
  pub fails_between_before : (first second : E) → env.failures first ≤ env.failures second
      → (These Those : Type 0) → (These → Those) → (later : E) (status : Status)
      → FailsBetweenOr env These second later status → FailsBetweenOr env Those first later status
  fails_between_before first second counted These Those along later status (inl out) = inl out
  fails_between_before first second counted These Those along later status (inr (inl more)) =
      inr (inl (omega (arith, counted, more)))
  fails_between_before first second counted These Those along later status (inr (inr (inl most))) =
      inr (inr (inl most))
  fails_between_before first second counted These Those along later status (inr (inr (inr why))) =
      inr (inr (inr (along why)))

  module _ {K : Type 0} where
    -- a world is kept by no move, and by two moves
    pub found_kept : (world : E × ReadFiles K) → KeepsFound env world world
    found_kept world = record {
      files_stay = refl;
      disk = KeepsDisk-refl env world.0;
      later = omega arith;
    }

    pub found_kept_on : (first second third : E × ReadFiles K) → KeepsFound env first second
        → KeepsFound env second third → KeepsFound env first third
    found_kept_on first second third one other =
        let counted = one.later in let later = other.later in
        record {
          files_stay = other.files_stay ∙ one.files_stay;
          disk = KeepsDisk-trans env one.disk other.disk;
          later = omega (arith, counted, later);
        }

module _ {E C K F : Type 0} {order : CmpGhosts (InternalKeyCmp C)} {env : EnvGhosts E F} where
  -- what is there stays, for the same walk
  pub found_stays : (set : Codings) (first second : E × ReadFiles K) → KeepsFound env first second
      → (it : FoundTable E C F) (bytes : List ℕ) (parts : List Part)
      → IsFoundThere order env set first.0 it bytes parts
      → IsFoundThere order env set second.0 it bytes parts
  found_stays set first second kept it bytes parts there = record {
    has = FileHas-after env kept.disk there.has;
    parts_are = there.parts_are;
    holds = there.holds;
    indexed = there.indexed;
    sorted = there.sorted;
  }

module _ {E C K F : Type 0} {order : CmpGhosts (InternalKeyCmp C)} {env : EnvGhosts E F}
    {codings : K → Codings} where
  pub found_over_stays : (first second : E × ReadFiles K) → KeepsFound env first second
      → (it : FoundTable E C F) (keys : KeyOrder) (pairs : List Pair)
      → IsFoundOver order env codings first it keys pairs
      → IsFoundOver order env codings second it keys pairs
  found_over_stays first second kept it keys pairs over = record {
    bytes = over.bytes;
    parts = over.parts;
    there = subst (λ (files : ReadFiles K). IsFoundThere order env (codings files.compressors.now)
        second.0 it over.bytes over.parts) (sym kept.files_stay)
        (found_stays (codings first.1.compressors.now) first second kept it over.bytes over.parts
        over.there);
    old = subst (λ (files : ReadFiles K). IsNoNewTable env files (file_of it.table))
        (sym kept.files_stay) over.old;
    keys_are = over.keys_are;
    pairs_are = over.pairs_are;
  }

  -- an error that a walk may have later it may have before, if the one after is over the lists of
  -- the one before
  pub found_fails_before : (first second : E × ReadFiles K)
      → env.failures first.0 ≤ env.failures second.0 → second.1 ≡ first.1
      → (old new : FoundTable E C F)
      → ((keys : KeyOrder) (pairs : List Pair)
      → IsFoundOver order env codings first old keys pairs
      → IsFoundOver order env codings second new keys pairs)
      → (later : E × ReadFiles K) (status : Status)
      → FailsInFound order env codings second new later status
      → FailsInFound order env codings first old later status
  found_fails_before first second counted same old new over later status fails = record {
    fault = fails_between_before env first.0 second.0 counted
        (HasLackCode env (codings second.1.compressors.now) status)
        (HasLackCode env (codings first.1.compressors.now) status)
        (λ lacks. subst (λ (files : ReadFiles K).
        HasLackCode env (codings files.compressors.now) status) same lacks)
        later.0 status fails.fault;
    sound = λ keys pairs was. fails_between_before env first.0 second.0 counted ⊥ ⊥
        (λ never. never) later.0 status (fails.sound keys pairs (over keys pairs was));
  }

  -- a walk over a found table is a walk
  pub found_laws : WalkLaws (IsFoundOver order env codings) (IsFoundAt order env codings) found_here
      (FailsInFound order env codings) (KeepsFound env)
  unfolding found_over_stays
  found_laws = record {
    sorted = λ world it keys pairs over. (let there = over.there in
        subst (λ (o : KeyOrder). IsSortedIn o pairs) (sym over.keys_are)
        (subst (IsSortedIn (key_order order it.table.cmp)) (sym over.pairs_are) there.sorted));
    over_list = λ world it keys pairs position at. at.over;
    in_range = λ world it keys pairs position at. (let over = at.over in let here = at.at in
        subst (λ ps. IsPosition ps position) (sym over.pairs_are)
        (in_range_of over.parts (position_over it.core.index) (inner_pairs it.core.inner)
        (inner_position it.core.inner) position here.at));
    at_position = λ world it keys pairs position at. (let over = at.over in let here = at.at in
        current_at over.parts (position_over it.core.index) (inner_pairs it.core.inner)
        (inner_position it.core.inner) position here.at
        ∙ ap (λ ps. pair_at ps position) (sym over.pairs_are));
    keeps_itself = found_kept env;
    keeps_on = found_kept_on env;
    stays_over = found_over_stays;
    stays = λ first second kept it keys pairs position at. record {
      over = found_over_stays first second kept it keys pairs at.over;
      at = at.at;
    };
    excuses = λ first second kept it. found_fails_before first second kept.later kept.files_stay it
        it (found_over_stays first second kept it);
  }

-- ---- the children of a merge

-- a walk over memory reads from no world
stays_alone : {W M : Type 0} {iterator : IteratorGhosts M} (first second : W) (it : InMemory M)
    (keys : KeyOrder) (pairs : List Pair) → IsAloneOver iterator first it keys pairs
    → IsAloneOver iterator second it keys pairs
stays_alone first second it keys pairs over =
    record { order_is = over.order_is; pairs_are = over.pairs_are; sorted = over.sorted }

module _ {E C K M F : Type 0} (order : CmpGhosts (InternalKeyCmp C)) (env : EnvGhosts E F)
    (codings : K → Codings) (iterator : IteratorGhosts M) where
  abbrev Over : E × ReadFiles K → FoundWalk E C M F → KeyOrder → List Pair → Type 0
  Over = IsWalkOver order env codings iterator

  abbrev At : E × ReadFiles K → FoundWalk E C M F → KeyOrder → List Pair → Option ℕ → Type 0
  At = IsWalkAt order env codings iterator

  abbrev Fails : E × ReadFiles K → FoundWalk E C M F → E × ReadFiles K → Status → Type 0
  Fails = FailsInWalk order env codings iterator

  walk_sorted : (world : E × ReadFiles K) (it : FoundWalk E C M F) (keys : KeyOrder)
      (pairs : List Pair) → Over world it keys pairs → IsSortedIn keys pairs
  walk_sorted world (Memory it) keys pairs over = over.sorted
  walk_sorted world (Table it) keys pairs over =
      (found_laws {order = order} {env = env} {codings = codings}).sorted world it keys pairs over

  walk_over_list : (world : E × ReadFiles K) (it : FoundWalk E C M F) (keys : KeyOrder)
      (pairs : List Pair) (position : Option ℕ) → At world it keys pairs position
      → Over world it keys pairs
  walk_over_list world (Memory it) keys pairs position at = at.over
  walk_over_list world (Table it) keys pairs position at = at.over

  walk_in_range : ((it : M) → IsPosition (iterator.pairs it) (iterator.position it))
      → (world : E × ReadFiles K) (it : FoundWalk E C M F) (keys : KeyOrder) (pairs : List Pair)
      (position : Option ℕ) → At world it keys pairs position → IsPosition pairs position
  walk_in_range within world (Memory it) keys pairs position at =
      (alone_laws {W = E × ReadFiles K} within).in_range world it keys pairs position at
  walk_in_range within world (Table it) keys pairs position at =
      (found_laws {order = order} {env = env} {codings = codings}).in_range world it keys pairs
      position at

  walk_at_position : ((it : M) → IsPosition (iterator.pairs it) (iterator.position it))
      → (world : E × ReadFiles K) (it : FoundWalk E C M F) (keys : KeyOrder) (pairs : List Pair)
      (position : Option ℕ) → At world it keys pairs position
      → walk_here iterator it ≡ pair_at pairs position
  walk_at_position within world (Memory it) keys pairs position at =
      (alone_laws {W = E × ReadFiles K} within).at_position world it keys pairs position at
  walk_at_position within world (Table it) keys pairs position at =
      (found_laws {order = order} {env = env} {codings = codings}).at_position world it keys pairs
      position at

  walk_stays_over : (first second : E × ReadFiles K) → KeepsFound env first second
      → (it : FoundWalk E C M F) (keys : KeyOrder) (pairs : List Pair)
      → Over first it keys pairs → Over second it keys pairs
  walk_stays_over first second kept (Memory it) keys pairs over =
      stays_alone first second it keys pairs over
  walk_stays_over first second kept (Table it) keys pairs over =
      found_laws.stays_over first second kept it keys pairs over

  walk_stays : (first second : E × ReadFiles K) → KeepsFound env first second
      → (it : FoundWalk E C M F) (keys : KeyOrder) (pairs : List Pair) (position : Option ℕ)
      → At first it keys pairs position → At second it keys pairs position
  walk_stays first second kept (Memory it) keys pairs position at = record {
    over = stays_alone first second it keys pairs at.over;
    position_is = at.position_is;
  }
  walk_stays first second kept (Table it) keys pairs position at =
      found_laws.stays first second kept it keys pairs position at

  walk_excuses : (first second : E × ReadFiles K) → KeepsFound env first second
      → (it : FoundWalk E C M F) (later : E × ReadFiles K) (status : Status)
      → Fails second it later status → Fails first it later status
  walk_excuses first second kept (Memory it) later status fails = fails
  walk_excuses first second kept (Table it) later status fails =
      found_laws.excuses first second kept it later status fails

module _ {E C K M F : Type 0} {order : CmpGhosts (InternalKeyCmp C)} {env : EnvGhosts E F}
    {codings : K → Codings} {iterator : IteratorGhosts M} where
  -- those of a walk over memory, and those of a walk over a table
  pub walk_laws : ((it : M) → IsPosition (iterator.pairs it) (iterator.position it))
      → WalkLaws {It = FoundWalk E C M F} (IsWalkOver order env codings iterator)
      (IsWalkAt order env codings iterator) (walk_here iterator)
      (FailsInWalk order env codings iterator) (KeepsFound env)
  walk_laws within = record {
    sorted = walk_sorted order env codings iterator;
    over_list = walk_over_list order env codings iterator;
    in_range = walk_in_range order env codings iterator within;
    at_position = walk_at_position order env codings iterator within;
    keeps_itself = found_kept env;
    keeps_on = found_kept_on env;
    stays_over = walk_stays_over order env codings iterator;
    stays = walk_stays order env codings iterator;
    excuses = walk_excuses order env codings iterator;
  }
