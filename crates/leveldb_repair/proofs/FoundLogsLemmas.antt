-- Entries of logs in memtables that are filled one after another.
use Rattle.std.specs.Prelude.{◌↔◌, All, Contains, max}
use Rattle.std.proofs.Common.{◌≡◌, ◌∙◌, ⊎_elim, ◌<◌, ◌+◌, ℕ, List, [], ◌∷◌, ◌++◌, ap, append-nil, append_assoc, arith, length, length-append, refl, subst, sym}
use Rattle.std.proofs.lemmas.List.Sums.{sum_by-append}
use Rattle.std.proofs.lemmas.List.Elements.{All-nil, All-push, Contains-append_cases, Contains-append_left, Contains-append_right}
use Rattle.leveldb_base.proofs.ConsistentLemmas.{rise_both, rise_placed}
use Rattle.leveldb_base.proofs.HistoryLemmas.{in_cases, in_front, in_none, in_rest}
use Rattle.leveldb_base.specs.History.{AreUpTo, Entry, Item, RiseAbove, greatest, placed}
use Rattle.leveldb_mem.specs.MemTable.{AddsAll, GrowsByAll, IsUnion, MemTableState, entry_key}
use Rattle.leveldb_mem.specs.WriteBatch.{Batch}
use Rattle.leveldb_files.proofs.Stores.BatchesLemmas.{each_more}
use Rattle.leveldb_files.proofs.Histories.NumbersLemmas.{entries_more, greatest_append, up_to_greatest}
use Rattle.leveldb_files.proofs.Stores.OneStoreLemmas.{flat_in, in_flat}
use Rattle.leveldb_files.specs.Stores.Batches.{Each, batch_entries}
use Rattle.leveldb_repair.specs.FoundLogs.{AddsBatch, AreAllTables, BeginsNext, HasRun, HaveEntries, HaveEntry, HaveRuns, InsertsBatch, KeepsEntries}
use Rattle.leveldb_repair.specs.declared.found_logs.memtables.Memtables.{Memtables}

-- ---- lists whose elements are related one by one

pub each_left : {A B : Type 0} (R : A → B → Type 0) (xs : List A) (ys : List B) → Each R xs ys
    → (x : A) → Contains xs x → (y : B) × Contains ys y × R x y
each_left R [] ys each x c = absurd (in_none x c)
each_left R (a ∷ xs) [] each x c = absurd each
each_left R (a ∷ xs) (b ∷ ys) each x c = ⊎_elim
    (λ (here : a ≡ x). (b, in_front b ys, subst (λ z. R z b) here each.0))
    (λ (there : Contains xs x). let rest = each_left R xs ys each.1 x there in
    (rest.0, in_rest b rest.0 ys rest.1, rest.2))
    (in_cases a x xs c)

pub each_right : {A B : Type 0} (R : A → B → Type 0) (xs : List A) (ys : List B) → Each R xs ys
    → (y : B) → Contains ys y → (x : A) × Contains xs x × R x y
each_right R xs [] each y c = absurd (in_none y c)
each_right R [] (b ∷ ys) each y c = absurd each
each_right R (a ∷ xs) (b ∷ ys) each y c = ⊎_elim
    (λ (here : b ≡ y). (a, in_front a xs, subst (λ z. R a z) here each.0))
    (λ (there : Contains ys y). let rest = each_right R xs ys each.1 y there in
    (rest.0, in_rest a rest.0 xs rest.1, rest.2))
    (in_cases b y ys c)

-- ---- placed batches

greatest_placed : (first : ℕ) (item : Item) (items : List Item)
    → greatest (placed first (item ∷ items)) ≡ first + length items
greatest_placed first item [] = omega arith
greatest_placed first item (next ∷ items) =
    let rest = greatest_placed (first + 1) next items in omega (arith, rest)

pub last_of_placed : (first : ℕ) (items : List Item) → 0 < length items
    → greatest (placed first items) + 1 ≡ first + length items
last_of_placed first [] some = absurd (omega (arith, some))
last_of_placed first (item ∷ items) some =
    let is = greatest_placed first item items in omega (arith, is)

-- no entry is past a number where there is none
pub up_to_none : {n : ℕ} (entries : List Entry) → entries ≡ [] → AreUpTo n entries
up_to_none entries none entry c =
    absurd (in_none entry (subst (λ es. Contains es entry) none c))

-- no items have no entries
pub none_placed : (first : ℕ) (items : List Item) → length items ≡ 0 → placed first items ≡ []
none_placed first [] none = refl
none_placed first (item ∷ items) none = absurd (omega (arith, none))

module _ {C : Type 0} where
  -- ---- one memtable

  pub HasRun-none : (table : MemTableState C) → table.kept.entries ≡ [] → HasRun [] table
  HasRun-none table none = record {
    rising = tt;
    are = subst (λ es. IsUnion [] [] es) (sym none) (λ entry. (λ c. c, λ c. c));
    grows = subst (λ es. GrowsByAll [] [] es) (sym none) (record { count = refl; memory = refl });
  }

  pub HasRun-same : (run : List Entry) (old new : MemTableState C)
      → new.kept.entries ≡ old.kept.entries → HasRun run old → HasRun run new
  HasRun-same run old new same has = record {
    rising = has.rising;
    are = subst (λ es. IsUnion [] run es) (sym same) has.are;
    grows = subst (λ es. GrowsByAll [] run es) (sym same) has.grows;
  }

  pub HasRun-more : (run more : List Entry) (old new : MemTableState C) → HasRun run old
      → RiseAbove (greatest run) more → IsUnion old.kept.entries more new.kept.entries
      → GrowsByAll old.kept.entries more new.kept.entries → HasRun (run ++ more) new
  HasRun-more run more old new has above gains grows = record {
    rising = rise_both 0 run more has.rising (subst (λ n. RiseAbove n more) (omega arith) above);
    are = λ entry. (
      λ c. ⊎_elim
          (λ (was : Contains old.kept.entries entry).
          Contains-append_left run more entry ((has.are entry).0 was))
          (λ (come : Contains more entry). Contains-append_right run more entry come)
          (Contains-append_cases old.kept.entries more entry ((gains entry).0 c)),
      λ c. (gains entry).1 (⊎_elim
          (λ (was : Contains run entry).
          Contains-append_left old.kept.entries more entry ((has.are entry).1 was))
          (λ (come : Contains more entry).
          Contains-append_right old.kept.entries more entry come)
          (Contains-append_cases run more entry c)),
    );
    grows = record {
      count = let long = length-append run more in
          omega (arith, long, grows.count, has.grows.count);
      memory = let long = length-append run more in
          let size = sum_by-append (λ entry. length (entry_key entry)) run more in
          omega (arith, long, size, grows.memory, has.grows.memory);
    };
  }

  -- it is empty where it has no entry
  none_in_run : (run : List Entry) (table : MemTableState C) → HasRun run table
      → length table.kept.entries ≡ 0 → run ≡ []
  none_in_run [] table has none = refl
  none_in_run (entry ∷ run) table has none =
      absurd (let count = has.grows.count in omega (arith, count, none))

  -- ---- memtables one after another

  pub HaveRuns-more : (entries run : List Entry) (tables : List (MemTableState C))
      (table : MemTableState C) → HaveRuns entries tables → HasRun run table
      → HaveRuns (entries ++ run) (tables ++ table ∷ [])
  HaveRuns-more entries run tables table have has = record {
    runs = have.runs ++ run ∷ [];
    parts = entries_more have.runs run ∙ ap (λ es. es ++ run) have.parts;
    each = each_more HasRun have.runs tables run table have.each has;
  }

  -- an entry that one of them has is one of all, and the other way round
  pub have_entry : (entries : List Entry) (tables : List (MemTableState C))
      → HaveRuns entries tables → (entry : Entry) → HaveEntry tables entry ↔ Contains entries entry
  have_entry entries tables have entry = (
    λ has.
        let run = each_right HasRun have.runs tables have.each has.0 has.1 in
        subst (λ es. Contains es entry) have.parts
        (flat_in (λ run. run) have.runs run.0 entry run.1 ((run.2.are entry).0 has.2)),
    λ c.
        let run = in_flat (λ run. run) have.runs entry
        (subst (λ es. Contains es entry) (sym have.parts) c) in
        let table = each_left HasRun have.runs tables have.each run.0 run.1 in
        (table.0, table.1, (table.2.are entry).1 run.2),
  )

  -- ---- memtables that are filled

  abbrev HasOrder : C → MemTableState C → Type 0
  HasOrder cmp table = table.cmp ≡ cmp

  pub HaveEntries-none : (memory : Memtables C) → memory.full.items ≡ []
      → memory.latest.kept.entries ≡ [] → memory.last ≡ 0 → memory.latest.cmp ≡ memory.cmp
      → HaveEntries [] memory
  HaveEntries-none memory full none last cmp = record {
    before = [];
    run = [];
    parts = refl;
    full = subst (λ tables. HaveRuns [] tables) (sym full)
        (record { runs = []; parts = refl; each = tt });
    latest = HasRun-none memory.latest none;
    last = last;
    cmp_full = subst (All (HasOrder memory.cmp)) (sym full) (All-nil (HasOrder memory.cmp));
    cmp_latest = cmp;
  }

  HaveEntries-kept : (old new : Memtables C) → KeepsEntries old new → (entries : List Entry)
      → HaveEntries entries old → HaveEntries entries new
  HaveEntries-kept old new keeps entries have = subst (HaveEntries entries) (sym keeps.others)
      (record {
        before = have.before;
        run = have.run;
        parts = have.parts;
        full = have.full;
        latest = HasRun-same have.run old.latest new.latest keeps.entries have.latest;
        last = have.last;
        cmp_full = have.cmp_full;
        cmp_latest = keeps.order ∙ have.cmp_latest;
      })

  module _ (old new : Memtables C) (batch : Batch) (inserts : InsertsBatch old batch new)
      (above : old.last < batch.first) where
    HaveEntries-insert : (entries : List Entry) → HaveEntries entries old
        → HaveEntries (entries ++ batch_entries batch) new
    HaveEntries-insert entries have = subst (HaveEntries (entries ++ batch_entries batch))
        (sym inserts.others) (record {
          before = have.before;
          run = have.run ++ batch_entries batch;
          parts = ap (λ es. es ++ batch_entries batch) have.parts
              ∙ append_assoc have.before have.run (batch_entries batch);
          full = have.full;
          latest = HasRun-more have.run (batch_entries batch) old.latest new.latest have.latest
              (rise_placed (greatest have.run) batch.first batch.items
              (subst (λ n. n < batch.first) have.last above)) inserts.gains inserts.grows;
          last = inserts.last ∙ ap (λ n. max n (greatest (batch_entries batch))) have.last
              ∙ sym (greatest_append have.run (batch_entries batch));
          cmp_full = have.cmp_full;
          cmp_latest = inserts.order ∙ have.cmp_latest;
        })

    up_to_inserted : AreUpTo old.last old.latest.kept.entries
        → AreUpTo new.last new.latest.kept.entries
    up_to_inserted before entry c = ⊎_elim
        (λ (was : Contains old.latest.kept.entries entry).
        let least = before entry was in let last = inserts.last in omega (arith, least, last))
        (λ (come : Contains (batch_entries batch) entry).
        let least = up_to_greatest (batch_entries batch) entry come in
        let last = inserts.last in omega (arith, least, last))
        (Contains-append_cases old.latest.kept.entries (batch_entries batch) entry
        ((inserts.gains entry).0 c))

  HaveEntries-next : (old new : Memtables C) → BeginsNext old new → (entries : List Entry)
      → HaveEntries entries old → HaveEntries entries new
  HaveEntries-next old new begins entries have = record {
    before = entries;
    run = [];
    parts = sym (append-nil entries);
    full = subst (HaveRuns entries) (sym begins.full)
        (subst (λ es. HaveRuns es (old.full.items ++ old.latest ∷ [])) (sym have.parts)
        (HaveRuns-more have.before have.run old.full.items old.latest have.full have.latest));
    latest = HasRun-none new.latest begins.none;
    last = begins.last;
    cmp_full = subst (All (HasOrder new.cmp)) (sym begins.full)
        (subst (λ cmp. All (HasOrder cmp) (old.full.items ++ old.latest ∷ [])) (sym begins.cmp)
        (All-push (HasOrder old.cmp) old.full.items old.latest have.cmp_full have.cmp_latest));
    cmp_latest = begins.order ∙ sym begins.cmp;
  }

  -- ---- a batch is added

  -- a batch came into the last memtable
  pub InsertsBatch-some : (old : Memtables C) (batch : Batch) (table : MemTableState C)
      (first last : ℕ) → first ≡ batch.first → 0 < length batch.items → old.last < batch.first
      → AddsAll old.latest.kept (placed first batch.items) table.kept
      → table.cmp ≡ old.latest.cmp → last + 1 ≡ batch.first + length batch.items
      → InsertsBatch old batch (record old { latest = table; last = last })
  InsertsBatch-some old batch table first last is_first some above adds order last_is = record {
    gains = subst (λ n. IsUnion old.latest.kept.entries (placed n batch.items) table.kept.entries)
        is_first adds.gains;
    grows = subst
        (λ n. GrowsByAll old.latest.kept.entries (placed n batch.items) table.kept.entries)
        is_first adds.grows;
    last = let most = last_of_placed batch.first batch.items some in
        omega (arith, most, last_is, above, some);
    order = order;
    others = refl;
  }

  -- nothing was done yet
  pub KeepsEntries-same : (memory : Memtables C) → KeepsEntries memory memory
  KeepsEntries-same memory = record { entries = refl; order = refl; others = refl }

  last_kept : (old mid : Memtables C) → KeepsEntries old mid → mid.last ≡ old.last
  last_kept old mid keeps = ap (λ (m : Memtables C). m.last) keeps.others

  pub up_to_kept : (old mid : Memtables C) → KeepsEntries old mid
      → AreUpTo old.last old.latest.kept.entries → AreUpTo mid.last mid.latest.kept.entries
  up_to_kept old mid keeps up_to = subst (λ n. AreUpTo n mid.latest.kept.entries)
      (sym (last_kept old mid keeps))
      (subst (λ es. AreUpTo old.last es) (sym keeps.entries) up_to)

  -- of no entry
  pub AddsBatch-none : (memory : Memtables C) (batch : Batch) → length batch.items ≡ 0
      → AreUpTo memory.last memory.latest.kept.entries → AddsBatch memory batch memory
  AddsBatch-none memory batch none up_to = record {
    have = λ entries have. subst (λ es. HaveEntries es memory) (sym (
        ap (λ es. entries ++ es) (none_placed batch.first batch.items none) ∙ append-nil entries))
        have;
    up_to = up_to;
    cmp = refl;
  }

  -- into the last memtable
  pub AddsBatch-here : (old mid new : Memtables C) (batch : Batch) → KeepsEntries old mid
      → InsertsBatch mid batch new → old.last < batch.first
      → AreUpTo old.last old.latest.kept.entries → AddsBatch old batch new
  AddsBatch-here old mid new batch keeps inserts above up_to = record {
    have = λ entries have. HaveEntries-insert mid new batch inserts mid_above entries
        (HaveEntries-kept old mid keeps entries have);
    up_to = up_to_inserted mid new batch inserts mid_above (up_to_kept old mid keeps up_to);
    cmp = ap (λ (m : Memtables C). m.cmp) inserts.others
        ∙ ap (λ (m : Memtables C). m.cmp) keeps.others;
  }
    where
      mid_above : mid.last < batch.first
      mid_above = subst (λ n. n < batch.first) (sym (last_kept old mid keeps)) above

  -- into another
  pub AddsBatch-next : (old mid begun : Memtables C) (table : MemTableState C)
      (new : Memtables C) (batch : Batch) → KeepsEntries old mid → BeginsNext mid begun
      → table.kept.entries ≡ begun.latest.kept.entries → table.cmp ≡ begun.latest.cmp
      → 0 < batch.first → InsertsBatch (record begun { latest = table }) batch new
      → AddsBatch old batch new
  AddsBatch-next old mid begun table new batch keeps begins same order from_one inserts = record {
    have = λ entries have. HaveEntries-insert made new batch inserts above entries
        (HaveEntries-kept begun made makes entries
        (HaveEntries-next mid begun begins entries (HaveEntries-kept old mid keeps entries have)));
    up_to = up_to_inserted made new batch inserts above
        (up_to_none table.kept.entries (same ∙ begins.none));
    cmp = ap (λ (m : Memtables C). m.cmp) inserts.others ∙ begins.cmp
        ∙ ap (λ (m : Memtables C). m.cmp) keeps.others;
  }
    where
      made : Memtables C
      made = record begun { latest = table }

      makes : KeepsEntries begun made
      makes = record { entries = same; order = order; others = refl }

      above : begun.last < batch.first
      above = subst (λ n. n < batch.first) (sym begins.last) from_one

  -- ---- all of them

  pub AreAllTables-both : (memory : Memtables C)
      → AreAllTables memory (memory.full.items ++ memory.latest ∷ [])
  AreAllTables-both memory entries have = (
    subst (λ es. HaveRuns es (memory.full.items ++ memory.latest ∷ [])) (sym have.parts)
        (HaveRuns-more have.before have.run memory.full.items memory.latest have.full have.latest),
    All-push (HasOrder memory.cmp) memory.full.items memory.latest have.cmp_full have.cmp_latest,
  )

  pub AreAllTables-full : (memory : Memtables C) → length memory.latest.kept.entries ≡ 0
      → AreAllTables memory memory.full.items
  AreAllTables-full memory none entries have = (
    subst (λ es. HaveRuns es memory.full.items)
        (sym (append-nil have.before)
        ∙ ap (λ es. have.before ++ es) (sym (none_in_run have.run memory.latest have.latest none))
        ∙ sym have.parts) have.full,
    have.cmp_full,
  )
