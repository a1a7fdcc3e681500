-- What memory and tables show of a history, they show of it with the batch that was added.
use Rattle.std.specs.Prelude.{Contains, max}
use Rattle.std.proofs.Common.{◌≡◌, ◌∙◌, ◌≤◌, ◌∷◌, ◌++◌, ⊎_elim, ℕ, List, [], ap, arith, subst, sym}
use Rattle.std.proofs.lemmas.List.Elements.{Contains-append_cases, Contains-append_left, Contains-append_right}
use Rattle.std.specs.declared.cmp.Ordering.{Ordering}
use Rattle.leveldb_base.proofs.HistoryLemmas.{same_with_more}
use Rattle.leveldb_base.specs.History.{AreAbove, Entry, History, SameView, entries_of, greatest}
use Rattle.leveldb_mem.specs.MemTable.{IsUnion}
use Rattle.leveldb_files.proofs.Histories.NumbersLemmas.{entries_more, greatest_append, up_to, up_to_greatest}
use Rattle.leveldb_files.proofs.Histories.ViewsLemmas.{same_sets, view_trans}
use Rattle.leveldb_files.specs.Levels.Levels.{LiveTable, table_entries}
use Rattle.leveldb_files.specs.Stores.Store.{SameEntries}
use Rattle.leveldb_version_set.specs.Engines.Writing.{EngineMemory, ShowsHistory}

module _ (cmp : List ℕ → List ℕ → Ordering) (memory other : EngineMemory)
    (tables : List LiveTable) (history : History) (batch : List Entry) (since last : ℕ)
    (reached : greatest (entries_of history) ≤ last) (above : AreAbove last batch)
    (union : IsUnion memory.mem batch other.mem) (waits : other.imm ≡ memory.imm)
    (s : ShowsHistory cmp memory tables history since) where
  abbrev older : List Entry
  older = memory.imm ++ table_entries tables

  abbrev front : List Entry
  front = memory.mem ++ older

  abbrev whole : List Entry
  whole = other.mem ++ (other.imm ++ table_entries tables)

  imm_is : (entry : Entry) → Contains other.imm entry → Contains memory.imm entry
  imm_is entry = subst (λ (es : List Entry). Contains es entry) waits

  -- the entries are those from before and the batch's
  to : (entry : Entry) → Contains whole entry → Contains (front ++ batch) entry
  to entry c = ⊎_elim
      (λ (new : Contains other.mem entry). ⊎_elim
      (λ (r : Contains memory.mem entry). Contains-append_left front batch entry
      (Contains-append_left memory.mem older entry r))
      (λ (b : Contains batch entry). Contains-append_right front batch entry b)
      (Contains-append_cases memory.mem batch entry ((union entry).0 new)))
      (λ (rest : Contains (other.imm ++ table_entries tables) entry).
      Contains-append_left front batch entry (Contains-append_right memory.mem older entry
      (subst (λ (es : List Entry). Contains (es ++ table_entries tables) entry) waits rest)))
      (Contains-append_cases other.mem (other.imm ++ table_entries tables) entry c)

  back : (entry : Entry) → Contains (front ++ batch) entry → Contains whole entry
  back entry c = ⊎_elim
      (λ (f : Contains front entry). ⊎_elim
      (λ (r : Contains memory.mem entry). new (Contains-append_left memory.mem batch entry r))
      (λ (rest : Contains older entry).
      Contains-append_right other.mem (other.imm ++ table_entries tables) entry
      (subst (λ (es : List Entry). Contains (es ++ table_entries tables) entry) (sym waits) rest))
      (Contains-append_cases memory.mem older entry f))
      (λ (b : Contains batch entry). new (Contains-append_right memory.mem batch entry b))
      (Contains-append_cases front batch entry c)
    where
      new : Contains (memory.mem ++ batch) entry → Contains whole entry
      new c = Contains-append_left other.mem (other.imm ++ table_entries tables) entry
          ((union entry).1 c)

  same_entries : SameEntries whole (front ++ batch)
  same_entries entry = (to entry, back entry)

  -- no number before the batch is past the last one
  in_front_up_to : (entry : Entry) → Contains front entry → entry.sequence ≤ last
  in_front_up_to entry c = let low = s.up_to entry c in omega (arith, low, reached)

  greatest_is : greatest (entries_of (history ++ batch ∷ []))
      ≡ max (greatest (entries_of history)) (greatest batch)
  greatest_is = ap greatest (entries_more history batch)
      ∙ greatest_append (entries_of history) batch

  pub batch_is_shown : ShowsHistory cmp other tables (history ++ batch ∷ []) since
  batch_is_shown = record {
    same = λ t late. view_trans whole (front ++ batch) (entries_of (history ++ batch ∷ [])) t
        (same_sets whole (front ++ batch) same_entries t)
        (subst (λ es. SameView (front ++ batch) es t) (sym (entries_more history batch))
        (same_with_more front (entries_of history) batch last t in_front_up_to
        (up_to last (entries_of history) reached) above (s.same t late)));
    up_to = λ entry c. ⊎_elim
        (λ (f : Contains front entry). let low = s.up_to entry f in omega (arith, low, greatest_is))
        (λ (b : Contains batch entry).
        let low = up_to_greatest batch entry b in omega (arith, low, greatest_is))
        (Contains-append_cases front batch entry (to entry c));
    imm_older = λ a b in_a in_b same_key. ⊎_elim
        (λ (r : Contains memory.mem b).
        s.imm_older a b (imm_is a in_a) r same_key)
        (λ (new : Contains batch b).
        let low = in_front_up_to a (Contains-append_right memory.mem older a
        (Contains-append_left memory.imm (table_entries tables) a (imm_is a in_a))) in
        let high = above b new in omega (arith, low, high))
        (Contains-append_cases memory.mem batch b ((union b).0 in_b));
    tables_older = λ a b in_a in_b same_key. ⊎_elim
        (λ (mem : Contains other.mem b). ⊎_elim
        (λ (r : Contains memory.mem b). s.tables_older a b in_a
        (Contains-append_left memory.mem memory.imm b r) same_key)
        (λ (new : Contains batch b).
        let low = in_front_up_to a (Contains-append_right memory.mem older a
        (Contains-append_right memory.imm (table_entries tables) a in_a)) in
        let high = above b new in omega (arith, low, high))
        (Contains-append_cases memory.mem batch b ((union b).0 mem)))
        (λ (w : Contains other.imm b). s.tables_older a b in_a
        (Contains-append_right memory.mem memory.imm b (imm_is b w)) same_key)
        (Contains-append_cases other.mem other.imm b in_b);
    levels = s.levels;
  }
