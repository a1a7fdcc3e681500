-- The loop of a merge: where its walk is, which pairs are merged, and what moves and new tables leave.
use Rattle.std.proofs.Common.{◌≡◌, ◌≤◌, ◌+◌, ◌∙◌, inl, inr, ℕ, List, [], ◌∷◌, ◌++◌, drop, take, Option, None, Some, Result, Ok, Err, refl, sym, ap, subst, arith, length, length-append}
use Rattle.std.specs.Prelude.{Contains, IsTrue}
use Rattle.std.proofs.lemmas.List.{take-append-drop}
use Rattle.std.proofs.lemmas.List.Elements.{Contains-append_left}
use Rattle.leveldb_base.specs.Cmp.{IsExactOrder}
use Rattle.leveldb_base.specs.Error.{IsOutOfMemory}
use Rattle.leveldb_base.specs.KeyTypes.{internal_cmp}
use Rattle.leveldb_base.specs.declared.error.Status.{Status}
use Rattle.leveldb_base.specs.Types.{IsPosition, Pair, next_position, pair_at, position_within}
use Rattle.leveldb_base.specs.declared.cmp.Cmp.{Ghosts as CmpGhosts}
use Rattle.leveldb_base.specs.declared.types.FileMetaData.{FileMetaData}
use Rattle.leveldb_env.proofs.EnvLemmas.{Run-mono}
use Rattle.leveldb_env.specs.Env.{Files, Run}
use Rattle.leveldb_env.specs.declared.env.Env.{Ghosts as EnvGhosts}
use Rattle.leveldb_env.specs.declared.filter.FilterPolicy.{Ghosts as FilterGhosts}
use Rattle.leveldb_iter.specs.Walk.{key_order}
use Rattle.leveldb_iter.specs.declared.walk.Walk.{Ghosts as WalkGhosts}
use Rattle.leveldb_files.proofs.Histories.SafeLemmas.{some_is}
use Rattle.leveldb_files.specs.Stores.Paths.{table_path}
use Rattle.leveldb_files.specs.Steps.StoreSteps.{AppendedAreBytes}
use Rattle.leveldb_version_set.specs.Sets.VersionSetValue.{VersionSetValue}
use Rattle.leveldb_store.specs.Tables.BuildTable.{TableChoices, passed}
use Rattle.leveldb_store.specs.Compactions.Merging.{BearsNewTables, IsReachedFrom, HasMerged, LeavesFiles, Merge, MergesTables, MovesLeaveFiles, TakesPair, by_move, by_writing, itself}
use Rattle.leveldb_store.specs.Openings.Opening.{GivesNumbers, TakesBackNew}
use Rattle.leveldb_store.specs.Tables.Outputs.{AreFinished, ChangesNewTables, FinishesOpen, HaveOutputs, IsOpenAfter, OutputsValue}
use Rattle.leveldb_store.specs.Tables.TableParts.{HaveTableParts, WritesParts}
use Rattle.leveldb_store.specs.Writing.Switch.{MayGiveNumber}
use Rattle.leveldb_store.specs.declared.passing.Passing.{Passing}
use Rattle.leveldb_store.specs.declared.table_file.TableFile.{TableFile}
use Rattle.leveldb_store.proofs.Tables.BuildTableLemmas.{pair_passed, passed_first, passed_next, taken_all, taken_next}
use Rattle.leveldb_store.proofs.Compactions.MergingLemmas.{merged_all, open_read}
use Rattle.leveldb_store.proofs.Tables.NotBuiltLemmas.{some_not_built}
use Rattle.leveldb_store.proofs.Tables.OutputsLemmas.{new-rise, new-trans}
use Rattle.leveldb_store.proofs.Tables.PartsLemmas.{parts_so, parts_still, parts_then}
use Rattle.leveldb_store.proofs.Logs.ReplayFilesLemmas.{GivesNumbers-trans}
use Rattle.leveldb_store.proofs.Tables.TableFileLemmas.{fails_later, own_fails}

-- ---- positions

-- the pairs before a position
abbrev pub before_position : List Pair → Option ℕ → List Pair
before_position pairs position = take (passed pairs position) pairs

-- the pair at a position is the last of those before the next one
pub before_pair : (pairs : List Pair) (position : Option ℕ) (pair : Pair)
    → Some pair ≡ pair_at pairs position
    → before_position pairs (next_position pairs position)
    ≡ before_position pairs position ++ pair ∷ []
before_pair pairs position pair there =
    ap (λ n. take n pairs) (passed_next pairs position pair there)
    ∙ taken_next pairs (passed pairs position) pair (pair_passed pairs position pair there)

pub before_first : (pairs : List Pair) → before_position pairs (position_within pairs 0) ≡ []
before_first pairs = ap (λ n. take n pairs) (passed_first pairs)

-- ---- the walk's moves

module _ {E F : Type 0} (env : EnvGhosts E F) where
  pub still_new : (store : List ℕ) (first : ℕ) {next : ℕ} {from to : E}
      → LeavesFiles env from to → ChangesNewTables env store first next from to
  still_new store first still = record {
    run = λ modelled. Run-mono (λ files same path apart. ap (λ (f : Files). f path) same)
        (still.run modelled);
    bytes = λ modelled were. subst AppendedAreBytes (sym (still.run modelled).has) were;
    locks = still.locks;
    later = still.later;
  }

  -- more new tables, below a greater number
  pub new-then : (store : List ℕ) {first next later : ℕ} {from mid to : E} → next ≤ later
      → ChangesNewTables env store first next from mid
      → ChangesNewTables env store first later mid to
      → ChangesNewTables env store first later from to
  new-then store up one two = new-trans env store (new-rise env store up one) two

module _ {C FP : Type 0} {order : CmpGhosts C} {filters : FilterGhosts FP}
    (choices : TableChoices order filters) {E F : Type 0} (env : EnvGhosts E F) (store : List ℕ)
    {from to : E} (still : LeavesFiles env from to) where
  finished_still : (files : List FileMetaData) (tables : List (List Pair))
      → AreFinished choices env store from files tables
      → AreFinished choices env store to files tables
  finished_still [] [] were = tt
  finished_still (file ∷ files) (pairs ∷ tables) were = (
    record {
      bytes = were.0.bytes;
      built = were.0.built;
      kept = λ modelled. ap (λ (f : Files). f (table_path store file.num))
          (still.run modelled).has ∙ were.0.kept modelled;
      size = were.0.size;
      smallest = were.0.smallest;
      largest = were.0.largest;
    },
    were.1,
    were.2,
    were.3,
    were.4,
    were.5,
    finished_still files tables were.6,
  )
  finished_still [] (pairs ∷ tables) were = absurd were
  finished_still (file ∷ files) [] were = absurd were

  open_still : (tables : List (List Pair)) (table : Option (TableFile E C FP F))
      (pairs : List Pair) → IsOpenAfter choices env store from tables table pairs
      → IsOpenAfter choices env store to tables table pairs
  open_still tables None pairs none = none
  open_still tables (Some table) pairs is = record {
    start = is.start;
    is_new = is.is_new;
    written = is.written;
    taken = is.taken;
    there = λ modelled. ap (λ (f : Files). f (env.name_of table.file)) (still.run modelled).has
        ∙ is.there modelled;
    named = is.named;
    fits = is.fits;
    first = is.first;
    bytes = is.bytes;
    last = is.last;
  }

  pub have_still : {first next : ℕ} {outputs : OutputsValue E C FP F} {tables : List (List Pair)}
      {pairs : List Pair} → HaveOutputs choices env store first next from outputs tables pairs
      → HaveOutputs choices env store first next to outputs tables pairs
  have_still {outputs = outputs} {tables} {pairs} have = record {
    finished = finished_still outputs.done tables have.finished;
    opened = open_still tables outputs.unfinished pairs have.opened;
    numbers = have.numbers;
    cut = have.cut;
  }

unfoldable pub merged_still : {C FP : Type 0} {order : CmpGhosts C} {filters : FilterGhosts FP}
    (merge : Merge order filters) {E F : Type 0} (env : EnvGhosts E F) {from to : E}
    → LeavesFiles env from to → {first next : ℕ} {read : List Pair} {passing : Passing}
    {outputs : OutputsValue E C FP F}
    → HasMerged merge env first read next from passing outputs
    → HasMerged merge env first read next to passing outputs
merged_still merge env still merged = record {
  are_read = merged.are_read;
  passed = merged.passed;
  tables = merged.tables;
  pairs = merged.pairs;
  have = have_still merge.choices env merge.store still merged.have;
  left = merged.left;
}

-- ---- numbers

pub gives_may : {old mid new : VersionSetValue} → GivesNumbers old mid → MayGiveNumber mid new
    → GivesNumbers old new
gives_may {old} {mid} {new} gives may = GivesNumbers-trans gives (by may)
  where
    by : MayGiveNumber mid new → GivesNumbers mid new
    by (inl same) = record {
      set = same ∙ ap (λ (set : VersionSetValue). record mid { next_file = set.next_file; given = set.given }) (sym same);
      rises = omega (arith, ap (λ (set : VersionSetValue). set.next_file) same);
    }
    by (inr given) = record {
      set = given ∙ ap (λ (set : VersionSetValue). record mid { next_file = set.next_file; given = set.given }) (sym given);
      rises = omega (arith, ap (λ (set : VersionSetValue). set.next_file) given);
    }

pub back_may : {old mid new : VersionSetValue} → GivesNumbers old mid → TakesBackNew old mid
    → MayGiveNumber mid new → TakesBackNew old new
back_may gives back (inl same) number is =
    back number (sym (ap (λ (set : VersionSetValue). set.given) same) ∙ is)
back_may {mid = mid} gives back (inr given) number is =
    let at : mid.next_file ≡ number =
    some_is mid.next_file number (sym (ap (λ (set : VersionSetValue). set.given) given) ∙ is) in
    inr (omega (arith, gives.rises, at))

pub may_rise : {old new : VersionSetValue} → MayGiveNumber old new → old.next_file ≤ new.next_file
may_rise (inl same) = omega (arith, ap (λ (set : VersionSetValue). set.next_file) same)
may_rise (inr given) = omega (arith, ap (λ (set : VersionSetValue). set.next_file) given)

pub may_give_one : {old new : VersionSetValue} → MayGiveNumber old new
    → new.next_file ≤ old.next_file + 1
may_give_one (inl same) = omega (arith, ap (λ (set : VersionSetValue). set.next_file) same)
may_give_one (inr given) = omega (arith, ap (λ (set : VersionSetValue). set.next_file) given)

-- ---- the loop

module _ {C FP : Type 0} {order : CmpGhosts C} {filters : FilterGhosts FP}
    (merge : Merge order filters) {E F T W : Type 0} (env : EnvGhosts E F)
    (walk : WalkGhosts W E T) (first : ℕ) (start : E × T) (from : W) where
  -- the walk is at a position of its list, and these pairs are before it
  pub record HasPassed (pairs read : List Pair) (at : E × T) (it : W) : Type 0 where
    pub position : Option ℕ
    pub here : walk.is_at at it (key_order order merge.choices.cmp) pairs position
    pub before : before_position pairs position ≡ read

  -- These pairs were read and merged, and the walk, if it is over a list and bears new tables, has
  -- passed them. Nothing changed but new tables.
  pub record MergesSoFar (next : ℕ) (at : E × T) (it : W) (passing : Passing)
      (outputs : OutputsValue E C FP F) : Type 0 where
    pub come : IsReachedFrom env walk merge.store first start at
    pub changes : ChangesNewTables env merge.store first next start.0 at.0
    pub read : List Pair
    pub parts : WritesParts merge.choices env read start.0 at.0
    pub merged : HasMerged merge env first read next at.0 passing outputs
    -- no more numbers were given than pairs were read
    pub few : next ≤ first + length read
    pub walked : BearsNewTables env walk merge.store first start → (pairs : List Pair)
        → walk.over start from (key_order order merge.choices.cmp) pairs
        → HasPassed pairs read at it
    pub excuses : BearsNewTables env walk merge.store first start → (later : E × T)
        (status : Status) → walk.fails at it later status → walk.fails start from later status

  -- the first of each list that the walk is over, from its beginning, are these pairs
  abbrev pub AreFirst : List Pair → Type 0
  AreFirst read = BearsNewTables env walk merge.store first start → (pairs : List Pair)
      → walk.over start from (key_order order merge.choices.cmp) pairs
      → (rest : List Pair) × (pairs ≡ read ++ rest)

  -- no list that the walk is over has fewer pairs than numbers were given from the first one on
  abbrev pub HasPairForEach : ℕ → Type 0
  HasPairForEach next = BearsNewTables env walk merge.store first start → (pairs : List Pair)
      → walk.over start from (key_order order merge.choices.cmp) pairs
      → next ≤ first + length pairs

  has_pair_for_each : {next : ℕ} (read : List Pair) → next ≤ first + length read → AreFirst read
      → HasPairForEach next
  has_pair_for_each read few begins bears pairs over =
      let front = begins bears pairs over in
      let longer = length-append read front.0 in
      let same = ap length front.1 in
      omega (arith, few, longer, same)

  -- the new tables are parts of ones of the list's pairs
  abbrev pub HasParts : ℕ → E → Type 0
  HasParts next at = BearsNewTables env walk merge.store first start → (pairs : List Pair)
      → walk.over start from (key_order order merge.choices.cmp) pairs → IsTrue env.models_disk
      → Run (HaveTableParts merge.choices (Contains pairs) merge.store first next
      (env.observed start.0).disk.files) (env.observed start.0) (env.observed at)

  has_parts : {next : ℕ} {at : E} (read : List Pair)
      → WritesParts merge.choices env read start.0 at → AreFirst read → HasParts next at
  has_parts read parts begins bears pairs over modelled =
      let front = begins bears pairs over in
      Run-mono (λ files are n from_first below. are (table_path merge.store n))
      (parts_so merge.choices env read pairs (λ pair there. subst (λ ps. Contains ps pair) (sym front.1)
      (Contains-append_left read front.0 pair there)) parts modelled)

  -- at each list that the walk is over it is at this pair
  abbrev pub IsAtPair : E × T → W → Pair → Type 0
  IsAtPair at it pair = (pairs : List Pair) (position : Option ℕ)
      → walk.is_at at it (key_order order merge.choices.cmp) pairs position
      → Some pair ≡ pair_at pairs position

  -- or at no pair
  abbrev pub IsAtEnd : E × T → W → Type 0
  IsAtEnd at it = (pairs : List Pair) (position : Option ℕ)
      → walk.is_at at it (key_order order merge.choices.cmp) pairs position
      → IsPosition pairs position × (None ≡ pair_at pairs position)

  module _ (leaves : MovesLeaveFiles env walk) where
    -- the walk is at its first pair
    pub so_far_begun : {at : E × T} {it : W} {passing : Passing}
        {outputs : OutputsValue E C FP F} → HasMerged merge env first [] first at.0 passing outputs
        → walk.keeps start at
        → ((pairs : List Pair) → walk.over start from (key_order order merge.choices.cmp) pairs
        → walk.is_at at it (key_order order merge.choices.cmp) pairs (position_within pairs 0))
        → ((later : E × T) (status : Status) → walk.fails at it later status
        → walk.fails start from later status)
        → MergesSoFar first at it passing outputs
    so_far_begun {at} merged kept begins excuses = record {
      come = by_move start at itself kept;
      changes = still_new env merge.store first (leaves start at kept);
      read = [];
      parts = parts_still merge.choices env [] (leaves start at kept);
      merged = merged;
      few = omega arith;
      walked = λ bears pairs over. record {
        position = position_within pairs 0;
        here = begins pairs over;
        before = before_first pairs;
      };
      excuses = λ bears. excuses;
    }

    module _ {next : ℕ} {at : E × T} {it : W} {passing : Passing}
        {outputs : OutputsValue E C FP F} (pair : Pair)
        (so_far : MergesSoFar next at it passing outputs) where
      -- the pairs that were read and this one are the first of the walk's list
      first_with : IsAtPair at it pair → AreFirst (so_far.read ++ pair ∷ [])
      first_with here bears pairs over =
          let past = so_far.walked bears pairs over in
          let count = passed pairs (next_position pairs past.position) in
          let before : take count pairs ≡ so_far.read ++ pair ∷ []
          = before_pair pairs past.position pair (here pairs past.position past.here)
          ∙ ap (λ ps. ps ++ pair ∷ []) past.before in (
            drop count pairs,
            sym (take-append-drop count pairs)
                ∙ ap (λ ps. ps ++ drop count pairs) before,
          )

      -- and so the new tables are parts after it was taken
      parts_with : {to : E} → WritesParts merge.choices env (so_far.read ++ pair ∷ []) at.0 to
          → WritesParts merge.choices env (so_far.read ++ pair ∷ []) start.0 to
      parts_with = parts_then merge.choices env _ (parts_so merge.choices env _ _
          (Contains-append_left so_far.read (pair ∷ [])) so_far.parts)

      -- one number more was given at most, and this pair was read
      few_with : {later : ℕ} → later ≤ next + 1
          → later ≤ first + length (so_far.read ++ pair ∷ [])
      few_with one =
          let few = so_far.few in
          let longer = length-append so_far.read (pair ∷ []) in
          omega (arith, few, one, longer)

    module _ {next later : ℕ} {at to : E} {tables : T} {it : W} {passing left : Passing}
        {outputs new : OutputsValue E C FP F} {pair : Pair}
        (so_far : MergesSoFar next (at, tables) it passing outputs) where
      -- a pair was taken, and the walk is at the next one
      pub so_far_next : {end : E × T} {now : W} {x : Unit {0}} → next ≤ later
          → later ≤ next + 1 → IsAtPair (at, tables) it pair
          → TakesPair merge env first so_far.read pair next at (Ok x) later to left new
          → walk.keeps (to, tables) end
          → ((pairs : List Pair) (position : Option ℕ)
          → walk.is_at (to, tables) it (key_order order merge.choices.cmp) pairs position
          → walk.is_at end now (key_order order merge.choices.cmp) pairs
          (next_position pairs position))
          → ((latest : E × T) (status : Status) → walk.fails end now latest status
          → walk.fails (to, tables) it latest status)
          → MergesSoFar later end now left new
      so_far_next {end} up one here takes kept moved excuses =
          let come = by_writing at to tables later so_far.come takes.changes in
          let still = leaves (to, tables) end kept in
          record {
            come = by_move (to, tables) end come kept;
            changes = new-trans env merge.store
                (new-then env merge.store up so_far.changes takes.changes)
                (still_new env merge.store first still);
            read = so_far.read ++ pair ∷ [];
            parts = parts_then merge.choices env _ (parts_with pair so_far takes.parts)
                (parts_still merge.choices env (so_far.read ++ pair ∷ []) still);
            merged = merged_still merge env still takes.ok;
            few = few_with pair so_far one;
            walked = λ bears pairs over.
                let past = so_far.walked bears pairs over in
                record {
                  position = next_position pairs past.position;
                  here = moved pairs past.position (bears.stays_at at to tables later so_far.come
                      takes.changes it (key_order order merge.choices.cmp) pairs past.position
                      past.here);
                  before = before_pair pairs past.position pair
                      (here pairs past.position past.here)
                      ∙ ap (λ ps. ps ++ pair ∷ []) past.before;
                };
            excuses = λ bears latest status failed. so_far.excuses bears latest status
                (bears.excuses at to tables later so_far.come takes.changes it latest status
                (excuses latest status failed));
          }

      -- it was taken, and the walk doesn't go on
      pub merge_unmoved : {X : Type 0} {items : X → List FileMetaData} {end : E × T}
          {x : Unit {0}} {status : Status} → next ≤ later → later ≤ next + 1
          → IsAtPair (at, tables) it pair
          → TakesPair merge env first so_far.read pair next at (Ok x) later to left new
          → walk.keeps (to, tables) end → walk.fails (to, tables) it end status
          → MergesTables merge env first {X = X} walk items start from (Err status) later end
      merge_unmoved {end = end} {status = status} up one here takes kept failed =
          let come = by_writing at to tables later so_far.come takes.changes in
          let still = leaves (to, tables) end kept in
          record {
            ok = tt;
            changes = new-trans env merge.store
                (new-then env merge.store up so_far.changes takes.changes)
                (still_new env merge.store first still);
            few = has_pair_for_each (so_far.read ++ pair ∷ []) (few_with pair so_far one)
                (first_with pair so_far here);
            parts = has_parts (so_far.read ++ pair ∷ []) (parts_then merge.choices env _
                (parts_with pair so_far takes.parts)
                (parts_still merge.choices env (so_far.read ++ pair ∷ []) still))
                (first_with pair so_far here);
            comes = by_move (to, tables) end come kept;
            cause = inl (record {
              at = (to, tables);
              now = it;
              come = come;
              kept = kept;
              failed = failed;
              from_start = λ bears. so_far.excuses bears end status (bears.excuses at to tables later
                  so_far.come takes.changes it end status failed);
            });
          }

      -- it isn't taken
      pub merge_untaken : {X : Type 0} {items : X → List FileMetaData} {status : Status}
          → next ≤ later → later ≤ next + 1 → IsAtPair (at, tables) it pair
          → TakesPair merge env first so_far.read pair next at (Err status) later to left new
          → MergesTables merge env first {X = X} walk items start from (Err status) later
          (to, tables)
      merge_untaken up one here takes = record {
        ok = tt;
        changes = new-then env merge.store up so_far.changes takes.changes;
        few = has_pair_for_each (so_far.read ++ pair ∷ []) (few_with pair so_far one)
            (first_with pair so_far here);
        parts = has_parts (so_far.read ++ pair ∷ []) (parts_with pair so_far takes.parts)
            (first_with pair so_far here);
        comes = by_writing at to tables later so_far.come takes.changes;
        cause = inr (
          env.failures at,
          so_far.changes.later,
          so_far.read ++ pair ∷ [],
          first_with pair so_far here,
          fails_later refl (λ fault. fault) takes.cause,
        );
      }

    -- the walk doesn't come to its first pair
    pub merge_unbegun : {X : Type 0} {items : X → List FileMetaData} {end : E × T}
        {status : Status} → walk.keeps start end → walk.fails start from end status
        → MergesTables merge env first {X = X} walk items start from (Err status) first end
    merge_unbegun {end = end} kept failed = record {
      ok = tt;
      changes = still_new env merge.store first (leaves start end kept);
      few = λ bears pairs over. omega arith;
      parts = has_parts [] (parts_still merge.choices env [] (leaves start end kept))
          (λ bears pairs over. (pairs, refl));
      comes = by_move start end itself kept;
      cause = inl (record {
        at = start;
        now = from;
        come = itself;
        kept = kept;
        failed = failed;
        from_start = λ bears. failed;
      });
    }

    module _ {next : ℕ} {at : E} {tables : T} {it : W} {passing : Passing}
        {outputs : OutputsValue E C FP F}
        (so_far : MergesSoFar next (at, tables) it passing outputs) {X : Type 0}
        (items : X → List FileMetaData) where
      -- the pairs that were read are the first of the walk's list
      first_read : AreFirst so_far.read
      first_read bears pairs over =
          let past = so_far.walked bears pairs over in
          let count = passed pairs past.position in (
            drop count pairs,
            sym (take-append-drop count pairs)
                ∙ ap (λ ps. ps ++ drop count pairs) past.before,
          )

      -- the pairs of the open table were read
      parts_after : (exact : IsExactOrder merge.choices.format.order)
          → order.cmp merge.choices.cmp ≡ internal_cmp merge.choices.format.order → {to : E}
          → WritesParts merge.choices env so_far.merged.pairs at to
          → WritesParts merge.choices env so_far.read start.0 to
      parts_after exact cmp_is parts = parts_then merge.choices env _ so_far.parts
          (parts_so merge.choices env _ _ (open_read merge env exact cmp_is so_far.merged) parts)

      -- memory is out before it comes to its end
      pub merge_endless : {status : Status} → IsOutOfMemory status
          → MergesTables merge env first walk items start from (Err status) next (at, tables)
      merge_endless memory = record {
        ok = tt;
        changes = so_far.changes;
        few = has_pair_for_each so_far.read so_far.few first_read;
        parts = has_parts so_far.read so_far.parts first_read;
        comes = so_far.come;
        cause = inr (
          env.failures at,
          so_far.changes.later,
          so_far.read,
          first_read,
          own_fails refl (inl memory),
        );
      }

      -- the last table is finished, or not
      pub merge_finished : (exact : IsExactOrder merge.choices.format.order)
          → order.cmp merge.choices.cmp ≡ internal_cmp merge.choices.format.order
          → {to : E} → IsAtEnd (at, tables) it → (result : Result X Status)
          → FinishesOpen merge.choices env merge.store first so_far.merged.tables
          so_far.merged.pairs next at result items to
          → MergesTables merge env first walk items start from result next (to, tables)
      merge_finished exact cmp_is {to = to} none (Ok files) finishes = record {
        ok = (
          so_far.read,
          merged_all merge env exact cmp_is so_far.merged finishes.ok,
          λ bears pairs over.
              let past = so_far.walked bears pairs over in
              let end = none pairs past.position past.here in
              sym (taken_all pairs past.position end.0 end.1) ∙ past.before,
        );
        changes = new-trans env merge.store so_far.changes finishes.changes;
        few = has_pair_for_each so_far.read so_far.few first_read;
        parts = has_parts so_far.read (parts_after exact cmp_is finishes.parts) first_read;
        comes = by_writing at to tables next so_far.come finishes.changes;
        cause = tt;
      }
      merge_finished exact cmp_is {to = to} none (Err status) finishes = record {
        ok = tt;
        changes = new-trans env merge.store so_far.changes finishes.changes;
        few = has_pair_for_each so_far.read so_far.few first_read;
        parts = has_parts so_far.read (parts_after exact cmp_is finishes.parts) first_read;
        comes = by_writing at to tables next so_far.come finishes.changes;
        cause = inr (
          env.failures at,
          so_far.changes.later,
          so_far.read,
          first_read,
          fails_later refl (λ not. inl (some_not_built merge.choices
              (open_read merge env exact cmp_is so_far.merged) not)) finishes.cause,
        );
      }
