-- Moves of a walk over the view of a store.
use Rattle.std.specs.Prelude.{Result}
use Rattle.std.proofs.Common.{◌≡◌, ◌≤◌, ◌<◌, ◌^◌, ◌-◌, ⊎_elim, inl, inr, ℕ, true, List, [], ◌∷◌, refl, sym, ◌∙◌, ap, subst, arith, Option, None, Ok}
use Rattle.std.proofs.lemmas.Bool.{cases_order}
use Rattle.std.specs.declared.cmp.Ordering.{Ordering}
use Rattle.leveldb_base.specs.Error.{IsOutOfMemory}
use Rattle.leveldb_base.specs.History.{History, IsView, entries_of}
use Rattle.leveldb_base.specs.Types.{Pair}
use Rattle.leveldb_base.specs.declared.cmp.Cmp.{Ghosts as CmpGhosts}
use Rattle.leveldb_base.specs.declared.cmp.internal.InternalKeyCmp.{InternalKeyCmp}
use Rattle.leveldb_base.specs.declared.error.Status.{Status}
use Rattle.leveldb_base.specs.declared.error.StatusCode.TheVariants.{InvalidArgument}
use Rattle.leveldb_env.specs.Compressor.{Codings}
use Rattle.leveldb_env.specs.declared.env.Env.{Ghosts}
use Rattle.leveldb_env.specs.declared.filter.FilterPolicy.{Ghosts as FilterGhosts}
use Rattle.leveldb_iter.specs.Moves.{AcceptsKeyOf, FailsMove, IsRefusedFor, LandsAt, MovesAll, MovesTo, SeeksLongKey, position_moved}
use Rattle.leveldb_iter.specs.Walk.{KeyOrder, WalkLaws}
use Rattle.leveldb_iter.specs.declared.moves.Move.{Move}
use Rattle.leveldb_iter.specs.declared.moves.Move.TheVariants.{First, Next, Prev, Seek}
use Rattle.leveldb_iter.specs.declared.moves.Step.{Step}
use Rattle.leveldb_iter.specs.declared.moves.Step.TheVariants.{At, Invalid, Refused}
use Rattle.leveldb_iter.specs.declared.walk.Walk.{Ghosts as WalkGhosts}
use Rattle.leveldb_iter.proofs.MovesLemmas.{moves_kept}
use Rattle.leveldb_files.specs.Stores.Batches.{Each}
use Rattle.leveldb_files.specs.Stores.Format.{IsTableFault, Meaning}
use Rattle.leveldb_version.specs.Tables.TableCache.{TableOptions, files_at, options_by}
use Rattle.leveldb_version.specs.Walks.VersionIter.{reading}
use Rattle.leveldb_version.specs.Walks.VersionIterLaws.{reading_stays}
use Rattle.leveldb_version.specs.declared.table_cache.TableCache.{TableCache}
use Rattle.leveldb_version.specs.declared.table_cache.moves.ReadTables.{ReadTables}
use Rattle.leveldb_store.specs.Keeping.OpenStore.{OpenStoreValue}
use Rattle.leveldb_store.specs.Keeping.OpenTables.{AreOpenTablesOf}
use Rattle.leveldb_store.specs.Reading.Read.{HasOpenTables}
use Rattle.leveldb_store.specs.Writing.Room.{HasFailed}
use Rattle.leveldb_store.specs.Reading.View.{CountsErrors, FailsBetween, IsOfNoCompressor, IsReadingOf, IsWorldOf, MakesMoves, MoveFails, ReadsAlone, ShowsIn, ViewsStore, WalksStore, any_in_order, options_in}
use Rattle.leveldb_store.specs.Keeping.Written.{HasView}

-- a move leads to the same position where only the keys that are accepted differ
same_position : (one : Move) (order : KeyOrder) (pairs : List Pair) (position : Option ℕ)
    → position_moved one order pairs position ≡ position_moved one (any_in_order order.cmp) pairs position
same_position First order pairs position = refl
same_position Next order pairs position = refl
same_position Prev order pairs position = refl
same_position (Seek key) order pairs position = refl

lands_in_any : (step : Step) (order : KeyOrder) (pairs : List Pair) (position : Option ℕ) (one : Move) (next : Option ℕ)
    → LandsAt order pairs position one step next → LandsAt (any_in_order order.cmp) pairs position one step next
lands_in_any (At key value) order pairs position one next lands = (lands.0 ∙ same_position one order pairs position, lands.1)
lands_in_any Invalid order pairs position one next lands = (sym (same_position one order pairs position) ∙ lands.0, lands.1)
lands_in_any (Refused status) order pairs position one next lands = lands

-- an order that accepts every key accepts the one that a move seeks
accepts_key : (order : KeyOrder) → ((key : List ℕ) → order.accepts key ≡ true) → (one : Move) → AcceptsKeyOf order one
accepts_key order all First = tt
accepts_key order all Next = tt
accepts_key order all Prev = tt
accepts_key order all (Seek key) = all key.items

-- a weaker reason
refused_for : (step : Step) (one : Move) {Why Other : Status → Type 0} → ((status : Status) → Why status → Other status)
    → IsRefusedFor step one Why → IsRefusedFor step one Other
refused_for (At key value) one weaker short = short
refused_for Invalid one weaker short = short
refused_for (Refused status) one weaker why = weaker status why

-- a count that rose between two numbers, or was at its greatest, did so in a wider range
pub wider : (a b c d : ℕ) → a ≤ b → b ≤ c → c ≤ d → HasFailed b c → HasFailed a d
wider a b c d low risen high (inl less) = inl (omega (arith, low, high, less))
wider a b c d low risen high (inr full) = ⊎_elim (λ (same : a ≡ b). inr (same ∙ full))
    (⊎_elim (λ (less : a < b). inl (omega (arith, less, risen, high))) (λ (more : b < a). absurd (omega (arith, low, more)))) (cases_order a b)

-- ---- why moves fail

-- `Why` is the cause of an error that may come at any time.
module _ {E F T W : Type 0} (env : Ghosts E F) (counts : (e : E) → env.failures e < 2 ^ 64) (walk : WalkGhosts W E T)
    (rising : (from to : E × T) → walk.keeps from to → env.failures from.0 ≤ env.failures to.0) (counted : CountsErrors env walk.fails)
    (laws : WalkLaws walk.over walk.is_at walk.here walk.fails walk.keeps) (first : E × T) (start : W) (Why : Status → Type 0)
    (ever : (status : Status) → ((other : E × T) → walk.fails first start other status) → FailsBetween env first first Why status) where
  -- what the walk had no reason for in the beginning it has none for later
  abbrev IsExcusing : E × T → W → Type 0
  IsExcusing world it = (later : E × T) (status : Status) → walk.fails world it later status → walk.fails first start later status

  -- why one move fails
  why : (one : Move) (world : E × T) (it : W) (mid : E × T) → env.failures first.0 ≤ env.failures world.0 → IsExcusing world it
      → (status : Status) → FailsMove walk world it one mid status → MoveFails Why (env.failures world.0) (env.failures mid.0) one status
  why one world it mid low excusing status fails = ⊎_elim
      (λ (own : walk.fails world it mid status). ⊎_elim
      (λ (out : IsOutOfMemory status). inl out)
      (⊎_elim
      (λ (failed : HasFailed (env.failures world.0) (env.failures mid.0)). inr (inl failed))
      (λ (any : (other : E × T) → walk.fails world it other status). ⊎_elim
      (λ (out : IsOutOfMemory status). inl out)
      (⊎_elim
      (λ (failed : HasFailed (env.failures first.0) (env.failures first.0)). inr (inl (inr (at_most failed))))
      (λ (is : Why status). inr (inr (inl is))))
      (ever status (λ other. excusing other status (any other)))))
      (counted world mid it status own))
      (⊎_elim (λ (out : IsOutOfMemory status). inl out) (λ (long : (status.code ≡ InvalidArgument) × SeeksLongKey one). inr (inr (inr long))))
      fails
    where
      -- the count is at its greatest
      at_most : HasFailed (env.failures first.0) (env.failures first.0) → env.failures world.0 ≡ 2 ^ 64 - 1
      at_most failed = ⊎_elim
          (λ (less : env.failures first.0 < env.failures first.0). omega (arith, less))
          (λ (full : env.failures first.0 ≡ 2 ^ 64 - 1). let below = counts world.0 in omega (arith, full, below, low))
          failed

  -- moves that are made from a position in a list
  pub moves_made : (order : KeyOrder) (accepts : (key : List ℕ) → order.accepts key ≡ true) (pairs : List Pair)
      (moves : List Move) (given : List Step) (world : E × T) (it : W) (to : E × T) (new : W) (position : Option ℕ)
      → env.failures first.0 ≤ env.failures world.0 → IsExcusing world it
      → walk.is_at world it order pairs position → MovesAll walk world it moves given to new
      → MakesMoves order.cmp Why pairs position (env.failures world.0) moves given (env.failures to.0)
  moves_made order accepts pairs [] [] world it to new position low excusing is_at moves = ap (λ (w : E × T). env.failures w.0) moves.0
  moves_made order accepts pairs [] (step ∷ given) world it to new position low excusing is_at moves = absurd moves
  moves_made order accepts pairs (one ∷ rest) [] world it to new position low excusing is_at moves = absurd moves
  moves_made order accepts pairs (one ∷ rest) (step ∷ given) world it to new position low excusing is_at moves =
      let mid = moves.0 in
      let it1 = moves.1 in
      let move : MovesTo walk one world it step mid it1 = moves.2 in
      let landed = move.lands order pairs position is_at (accepts_key order accepts one) in
      let rises = rising world mid move.kept in (
        env.failures mid.0,
        rises,
        landed.0,
        lands_in_any step order pairs position one landed.0 landed.2,
        refused_for step one (why one world it mid low excusing) move.cause,
        moves_made order accepts pairs rest given mid it1 to new landed.0 (omega (arith, low, rises)) (λ later status fails. excusing later status (move.excuses later status fails)) landed.1 moves.3,
      )

  -- each move that failed has a cause
  pub moves_refused : (moves : List Move) (given : List Step) (world : E × T) (it : W) (to : E × T) (new : W)
      → env.failures first.0 ≤ env.failures world.0 → IsExcusing world it → MovesAll walk world it moves given to new
      → Each (λ one step. IsRefusedFor step one (MoveFails Why (env.failures first.0) (env.failures to.0) one)) moves given
  moves_refused [] [] world it to new low excusing moves = tt
  moves_refused [] (step ∷ given) world it to new low excusing moves = absurd moves
  moves_refused (one ∷ rest) [] world it to new low excusing moves = absurd moves
  moves_refused (one ∷ rest) (step ∷ given) world it to new low excusing moves =
      let mid = moves.0 in
      let it1 = moves.1 in
      let move : MovesTo walk one world it step mid it1 = moves.2 in
      let risen = rising world mid move.kept in
      let high = rising mid to (moves_kept walk laws rest given mid it1 to new moves.3) in (
        refused_for step one (λ status fails. in_whole one (env.failures world.0) (env.failures mid.0) low risen high status (why one world it mid low excusing status fails)) move.cause,
        moves_refused rest given mid it1 to new (omega (arith, low, risen)) (λ later status fails. excusing later status (move.excuses later status fails)) moves.3,
      )
    where
      in_whole : (one : Move) (a b : ℕ) → env.failures first.0 ≤ a → a ≤ b → b ≤ env.failures to.0
          → (status : Status) → MoveFails Why a b one status → MoveFails Why (env.failures first.0) (env.failures to.0) one status
      in_whole one a b low risen high status fails = ⊎_elim
          (λ (out : IsOutOfMemory status). inl out)
          (⊎_elim
          (λ (failed : HasFailed a b). inr (inl (wider (env.failures first.0) a b (env.failures to.0) low risen high failed)))
          (λ rest. inr (inr rest)))
          fails

-- ---- a walk over the view

module _ {E F C FP K W : Type 0} {keys : CmpGhosts (InternalKeyCmp C)} (env : Ghosts E F) (counts : (e : E) → env.failures e < 2 ^ 64)
    (cmp : CmpGhosts C) (filters : FilterGhosts FP) (codings : K → Codings) (walk : WalkGhosts W E (ReadTables E C FP K F))
    (reads : ReadsAlone keys env cmp filters codings walk)
    (value : OpenStoreValue C) (sequence : ℕ) (it : W) (views : ViewsStore keys env cmp filters codings walk value sequence it)
    (from to : E) (tables left : ReadTables E C FP K F) (new : W) (order_is : cmp.cmp tables.cmp ≡ cmp.cmp value.cmp) (below_is : tables.below ≡ value.set.next_file)
    (moves : List Move) (given : List Step) (made : MovesAll walk (from, tables) it moves given (to, left) new) where
  abbrev by : TableOptions C FP
  by = options_in env cmp filters codings (from, tables)

  kept : walk.keeps (from, tables) (to, left)
  kept = moves_kept walk views.laws moves given (from, tables) it (to, left) new made

  -- the tables stay borrowed
  pub reference_kept : left.cache.ghost_name ≡ tables.cache.ghost_name
  reference_kept = (reads.leaves (from, tables) (to, left) kept).reference

  rises : (first second : E × ReadTables E C FP K F) → walk.keeps first second → env.failures first.0 ≤ env.failures second.0
  rises first second keeps = (reads.leaves first second keeps).tables.later

  world : HasOpenTables keys env by value from tables.cache.now → IsWorldOf keys env cmp filters codings value (from, tables)
  world has_open = record { order_is = order_is; below_is = below_is; has_open = has_open }

  abbrev Lacks : Meaning → Status → Type 0
  Lacks meaning = IsOfNoCompressor by.format meaning

  -- in the store's order
  made_in_view : (meaning : Meaning) (history : History) (since : ℕ) → since ≤ sequence → ShowsIn keys env cmp filters codings value meaning history since (from, tables)
      → (pairs : List Pair) × IsView (cmp.cmp value.cmp) (entries_of history) sequence pairs
      × MakesMoves (cmp.cmp value.cmp) (Lacks meaning) pairs None (env.failures from) moves given (env.failures to)
  made_in_view meaning history since low shows =
      let over = views.over (from, tables) meaning history since low shows in (
        over.0,
        over.1,
        moves_made env counts walk rises reads.counts views.laws (from, tables) it (Lacks meaning)
            (λ status ever. views.lacks (from, tables) meaning history since shows (from, tables) status (ever (from, tables)))
            (any_in_order (cmp.cmp value.cmp)) (λ key. refl) over.0 moves given (from, tables) it (to, left) new None (omega arith) (λ later status fails. fails) over.2 made,
      )

  -- the walk's moves are those in the store's view
  pub view_walked : WalksStore keys env by value from tables.cache.now sequence moves given (Ok tt) to left.cache.now
  view_walked = record {
    walks = λ has_open meaning agrees history since low shows.
        subst (λ (order : List ℕ → List ℕ → Ordering). (pairs : List Pair) × IsView order (entries_of history) sequence pairs
        × MakesMoves order (Lacks meaning) pairs None (env.failures from) moves given (env.failures to)) (sym order_is)
        (made_in_view meaning history since low (record {
          is_world = world has_open;
          agrees = agrees;
          shows = subst (λ (order : List ℕ → List ℕ → Ordering). HasView order meaning value (files_at env from) history since) order_is shows;
        }));
    refused = moves_refused env counts walk rises reads.counts views.laws (from, tables) it (λ e. IsTableFault by.format e.code)
        (λ status ever. views.fault (from, tables) (from, tables) status (ever (from, tables)))
        moves given (from, tables) it (to, left) new (omega arith) (λ later status fails. fails) made;
    none = tt;
    kept = (reads.leaves (from, tables) (to, left) kept).tables.disk;
    later = rises (from, tables) (to, left) kept;
    still_open = λ has_open. subst (λ (options : TableOptions C FP). AreOpenTablesOf keys env options value.set (files_at env to) left.cache.now)
        (reading_stays (from, tables) (to, left) (reads.leaves (from, tables) (to, left) kept))
        (reads.stays value (from, tables) (to, left) kept (world has_open)).has_open.are;
  }

-- ---- what is read with

module _ {E F C FP K : Type 0} (env : Ghosts E F) (cmp : CmpGhosts C) (filters : FilterGhosts FP) (codings : K → Codings)
    (value : OpenStoreValue C) (order : C) (policy : FP) (compressors : K) (tables : TableCache E C FP F) (it : ReadTables E C FP K F)
    (is : IsReadingOf value order policy compressors tables it) where
  -- the options of a reading are those that it is made of
  pub reading_options : reading env cmp filters codings it ≡ options_by cmp filters (codings compressors) order policy
  reading_options = ap (λ (k : K). options_by cmp filters (codings k) it.cmp it.policy) is.compressors_are
      ∙ ap (λ (c : C). options_by cmp filters (codings compressors) c it.policy) is.order_is
      ∙ ap (λ (p : FP). options_by cmp filters (codings compressors) order p) is.policy_is

module _ {E F C FP K : Type 0} {keys : CmpGhosts (InternalKeyCmp C)} (env : Ghosts E F) (cmp : CmpGhosts C) (filters : FilterGhosts FP) (codings : K → Codings)
    (value : OpenStoreValue C) (order : C) (policy : FP) (compressors : K) (tables : TableCache E C FP F) (it : ReadTables E C FP K F)
    (is : IsReadingOf value order policy compressors tables it) where
  -- beside an environment whose files have the store's tables it is a world of the store
  pub reading_is_world : (state : E) → cmp.cmp order ≡ cmp.cmp value.cmp → HasOpenTables keys env (options_by cmp filters (codings compressors) order policy) value state tables
      → IsWorldOf keys env cmp filters codings value (state, it)
  reading_is_world state same has_open = record {
    order_is = ap cmp.cmp is.order_is ∙ same;
    below_is = is.below_is;
    has_open = subst (λ (options : TableOptions C FP). HasOpenTables keys env options value state it.cache.now) (sym (reading_options env cmp filters codings value order policy compressors tables it is))
        (subst (λ (cache : TableCache E C FP F). HasOpenTables keys env (options_by cmp filters (codings compressors) order policy) value state cache) (sym is.cache_is) has_open);
  }

  -- a walk in the reading is one with these options and these tables
  pub walked_by : (from : E) (sequence : ℕ) (moves : List Move) (given : List Step) (result : Result (Unit {0}) Status) (to : E) (left now : TableCache E C FP F) → now ≡ left
      → WalksStore keys env (reading env cmp filters codings it) value from it.cache.now sequence moves given result to left
      → WalksStore keys env (options_by cmp filters (codings compressors) order policy) value from tables sequence moves given result to now
  walked_by from sequence moves given result to left now same walks =
      subst (λ (after : TableCache E C FP F). WalksStore keys env (options_by cmp filters (codings compressors) order policy) value from tables sequence moves given result to after) (sym same)
      (subst (λ (cache : TableCache E C FP F). WalksStore keys env (options_by cmp filters (codings compressors) order policy) value from cache sequence moves given result to left) is.cache_is
      (subst (λ (options : TableOptions C FP). WalksStore keys env options value from it.cache.now sequence moves given result to left) (reading_options env cmp filters codings value order policy compressors tables it is) walks))
