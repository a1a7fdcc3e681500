-- Where the tables of a merge end, one pair after another.
use Rattle.std.specs.Prelude.{Contains, IfErr, IfOk, IsErrAnd, OnOk, if◌then◌else◌, is_some, not, nat_lt, min, ◌&&◌, ◌||◌, ◌↔◌}
use Rattle.std.proofs.Common.{◌≡◌, ◌≢◌, ◌⊎◌, ◌∙◌, inl, inr, ⊎_elim, ℕ, ◌-◌, ◌^◌, Bool, true, false, List, [], ◌∷◌, ◌++◌, map, Option, None, Some, Result, Ok, Err, refl, sym, ap, subst}
use Rattle.std.proofs.lemmas.Bool.{lt-ltb, ltb-true}
use Rattle.std.proofs.lemmas.Cmp.{tied_itself}
use Rattle.std.proofs.lemmas.List.{append-nil, map-append}
use Rattle.std.proofs.lemmas.List.Elements.{Contains-append_cases, Contains-append_left, Contains-append_right, Contains-push, Contains-push_cases}
use Rattle.std.specs.Cmp.{IsTotalOrder}
use Rattle.std.specs.Ordering.{ordering_reverse}
use Rattle.std.specs.Cmp.Lexicographic.{bytes_decides}
use Rattle.std.specs.Str.{bytes_eq}
use Rattle.std.specs.declared.cmp.Ordering.{Ordering}
use Rattle.std.specs.declared.cmp.Ordering.TheVariants.{Greater, Less}
use Rattle.leveldb_base.proofs.EntriesLemmas.{internal_is_total}
use Rattle.leveldb_base.proofs.HistoryLemmas.{in_cases, in_front, in_none}
use Rattle.leveldb_base.proofs.ThinningLemmas.{of_filter}
use Rattle.leveldb_base.specs.Cmp.{IsExactOrder}
use Rattle.leveldb_base.specs.Entries.{entry_of_pair}
use Rattle.leveldb_base.specs.Error.{IsOutOfMemory}
use Rattle.leveldb_base.specs.KeyTypes.{internal_cmp, user_part}
use Rattle.leveldb_base.specs.Thinning.{goes_after}
use Rattle.leveldb_base.specs.Types.{IsPosition, Pair, next_position, pair_at, position_within}
use Rattle.leveldb_base.specs.declared.cmp.Cmp.{Ghosts as CmpGhosts}
use Rattle.leveldb_base.specs.declared.error.Status.{Status}
use Rattle.leveldb_base.specs.declared.types.FileMetaData.{FileMetaData}
use Rattle.leveldb_env.specs.declared.env.Env.{Ghosts as EnvGhosts}
use Rattle.leveldb_env.specs.declared.filter.FilterPolicy.{Ghosts as FilterGhosts}
use Rattle.leveldb_iter.specs.declared.walk.Walk.{Ghosts as WalkGhosts}
use Rattle.leveldb_iter.specs.Walk.{KeyOrder, key_order}
use Rattle.leveldb_table.specs.BlockBuilder.{last_added}
use Rattle.leveldb_table.specs.TableBuilder.{TableBuilt, last_of, table_estimate}
use Rattle.leveldb_store.specs.Compactions.Cutting.{AreCut, AreStops, CutsInto, EachEndsForCause, EndsForCause, GoesOnWithinKey, HasCut, HasStop, HasStopBy, HeedsLimit, HeedsStops, IsBuilderOf, IsPast, asked, unasked}
use Rattle.leveldb_store.specs.Compactions.Merging.{AreRead, BearsNewTables, IsReachedFrom, LeavesFiles, Merge, all_pairs, last_entry, stays}
use Rattle.leveldb_store.specs.Compactions.Passing.{IsJustBefore}
use Rattle.leveldb_store.specs.Tables.BuildTable.{TableChoices}
use Rattle.leveldb_store.specs.Tables.Outputs.{AreTables, ChangesNewTables, FinishesOpen, IsOpenAfter, OutputsValue, PutsPair, ends_after, is_due, is_due_in, no_outputs, pairs_after, tables_after, with_table}
use Rattle.leveldb_store.specs.declared.passing.Passing.{Passing}
use Rattle.leveldb_store.specs.declared.table_file.TableFile.{TableFile}
use Rattle.leveldb_store.proofs.Compactions.MergeLoopLemmas.{HasPassed, before_first, before_pair, merged_still}
use Rattle.leveldb_store.proofs.Tables.BuildTableLemmas.{taken_all}
use Rattle.leveldb_store.proofs.Compactions.MergingLemmas.{merged_all, merged_none, open_read, rises_to, taken_gone, taken_put}

-- after an error nothing is said of an Ok
pub no_ok : {T : Type 0} (P : Type 0) (Why : Status → Type 0) (result : Result T Status)
    → IsErrAnd result Why → OnOk result P
no_ok P Why (Ok x) never = absurd never
no_ok P Why (Err status) why = tt

-- ---- lists

head_is : {A : Type 0} (x y : A) (xs ys : List A) → x ∷ xs ≡ y ∷ ys → x ≡ y
head_is x y xs ys e = cc

tail_is : {A : Type 0} (x y : A) (xs ys : List A) → x ∷ xs ≡ y ∷ ys → xs ≡ ys
tail_is x y xs ys e = cc

not_empty : (pairs rest : List Pair) (pair : Pair) → [] ≡ pairs ++ pair ∷ rest → ⊥
not_empty [] rest pair e = absurd (cc e)
not_empty (first ∷ pairs) rest pair e = absurd (cc e)

-- a list with one pair more that is parted before a pair is parted before its last, or was before
parted_last : (pairs : List Pair) (last : Pair) (front rest : List Pair) (pair : Pair)
    → pairs ++ last ∷ [] ≡ front ++ pair ∷ rest
    → ((front ≡ pairs) × (pair ≡ last))
    ⊎ ((more : List Pair) × (pairs ≡ front ++ pair ∷ more))
parted_last [] last [] rest pair e = inl (refl, sym (head_is last pair [] rest e))
parted_last [] last (x ∷ front) rest pair e =
    absurd (not_empty front rest pair (tail_is last x [] (front ++ pair ∷ rest) e))
parted_last (first ∷ pairs) last [] rest pair e =
    inr (pairs, ap (λ (p : Pair). p ∷ pairs) (head_is first pair (pairs ++ last ∷ []) rest e))
parted_last (first ∷ pairs) last (x ∷ front) rest pair e =
    let same = tail_is first x (pairs ++ last ∷ []) (front ++ pair ∷ rest) e in
    let head = head_is first x (pairs ++ last ∷ []) (front ++ pair ∷ rest) e in
    ⊎_elim
    (λ (whole : (front ≡ pairs) × (pair ≡ last)).
    inl (ap (λ ps. x ∷ ps) whole.0 ∙ ap (λ (p : Pair). p ∷ pairs) (sym head), whole.1))
    (λ (more : (m : List Pair) × (pairs ≡ front ++ pair ∷ m)).
    inr (
      more.0,
      ap (λ ps. first ∷ ps) more.1
          ∙ ap (λ (p : Pair). p ∷ (front ++ pair ∷ more.0)) head,
    ))
    (parted_last pairs last front rest pair same)

-- ---- the order

module _ (cmp : List ℕ → List ℕ → Ordering) (total : IsTotalOrder cmp) where
  less_back : (a b : List ℕ) → cmp a b ≡ Less → cmp b a ≡ Greater
  less_back a b less = total.antisymm b a ∙ ap ordering_reverse less

  not_both : (a b : List ℕ) → cmp a b ≡ Less → cmp b a ≡ Less → ⊥
  not_both a b less other = absurd (cc (sym (less_back a b less) ∙ other))

  not_itself : (a : List ℕ) → cmp a a ≡ Less → ⊥
  not_itself a less = absurd (cc (sym (tied_itself total a) ∙ less))

-- ---- stops

module _ (cmp : List ℕ → List ℕ → Ordering) where
  -- one stop more
  stop_more : (stops more : List (List ℕ)) (pairs : List Pair) → HasStop cmp stops pairs
      → HasStop cmp (stops ++ more) pairs
  stop_more stops more [] has = has
  stop_more stops more (first ∷ pairs) has =
      (has.0, Contains-append_left stops more has.0 has.1, has.2)

  stop_by_more : (stops more : List (List ℕ)) (pairs : List Pair) (key : List ℕ)
      → HasStopBy cmp stops pairs key → HasStopBy cmp (stops ++ more) pairs key
  stop_by_more stops more [] key has = has
  stop_by_more stops more (first ∷ pairs) key has =
      (has.0, Contains-append_left stops more has.0 has.1, has.2, has.3)

  -- the pairs that follow the first tell nothing
  stop_longer : (stops : List (List ℕ)) (first : Pair) (pairs more : List Pair)
      → HasStop cmp stops (first ∷ pairs) → HasStop cmp stops ((first ∷ pairs) ++ more)
  stop_longer stops first pairs more has = has

  stop_shorter : (stops : List (List ℕ)) (first : Pair) (pairs more : List Pair)
      → HasStop cmp stops ((first ∷ pairs) ++ more) → HasStop cmp stops (first ∷ pairs)
  stop_shorter stops first pairs more has = has

  -- a stop by a key is one
  stop_of_by : (stops : List (List ℕ)) (pairs : List Pair) (key : List ℕ)
      → HasStopBy cmp stops pairs key → HasStop cmp stops pairs
  stop_of_by stops [] key has = has
  stop_of_by stops (first ∷ pairs) key has = (has.0, has.1, has.2)

  -- where no stop is after this key, one is by it
  stop_by_last : (stops : List (List ℕ)) (pairs : List Pair) (key : List ℕ)
      → ((stop : List ℕ) → Contains stops stop → cmp stop key ≢ Greater)
      → HasStop cmp stops pairs → HasStopBy cmp stops pairs key
  stop_by_last stops [] key none has = has
  stop_by_last stops (first ∷ pairs) key none has = (has.0, has.1, has.2, none has.0 has.1)

  -- a stop that is after each of a table's pairs changes nothing for it
  heeds_later : (stops : List (List ℕ)) (stop : List ℕ) (table : List Pair)
      → ((pair : Pair) → Contains table pair → cmp stop pair.0 ≡ Greater)
      → HeedsStops cmp stops table → HeedsStops cmp (stops ++ stop ∷ []) table
  heeds_later stops stop table after heeds front rest pair is has =
      heeds front rest pair is (was front has)
    where
      later : cmp stop pair.0 ≡ Greater
      later = after pair (subst (λ ps. Contains ps pair) (sym is)
          (Contains-append_right front (pair ∷ rest) pair (in_front pair rest)))

      was : (ps : List Pair) → HasStopBy cmp (stops ++ stop ∷ []) ps pair.0
          → HasStopBy cmp stops ps pair.0
      was [] it = it
      was (first ∷ ps) it = ⊎_elim
          (λ (old : Contains stops it.0). (it.0, old, it.2, it.3))
          (λ (is_it : stop ≡ it.0). absurd (it.3 (subst (λ k. cmp k pair.0 ≡ Greater) is_it later)))
          (Contains-push_cases stops stop it.0 it.1)

  -- a table of one pair has none after a stop
  heeds_one : (stops : List (List ℕ)) (only : Pair) → HeedsStops cmp stops (only ∷ [])
  heeds_one stops only [] rest pair is has = absurd has
  heeds_one stops only (first ∷ front) rest pair is has =
      ⊎_elim
      (λ (whole : (first ∷ front ≡ []) × (pair ≡ only)). let no = whole.0 in absurd (cc no))
      (λ (more : (m : List Pair) × ([] ≡ (first ∷ front) ++ pair ∷ m)).
      absurd (not_empty (first ∷ front) more.0 pair more.1))
      (parted_last [] only (first ∷ front) rest pair is)

  heeds_none : (stops : List (List ℕ)) → HeedsStops cmp stops []
  heeds_none stops front rest pair is has = absurd (not_empty front rest pair is)

  -- one pair more, which is of the last user key if there is a stop by it
  heeds_pushed : (stops : List (List ℕ)) (pairs : List Pair) (last : Pair)
      → HeedsStops cmp stops pairs
      → (HasStopBy cmp stops pairs last.0 → user_part (last_added pairs) ≡ user_part last.0)
      → HeedsStops cmp stops (pairs ++ last ∷ [])
  heeds_pushed stops pairs last heeds so front rest pair is has = ⊎_elim
      (λ (whole : (front ≡ pairs) × (pair ≡ last)).
      subst (λ ps. HasStopBy cmp stops ps pair.0
      → user_part (last_added ps) ≡ user_part pair.0) (sym whole.0)
      (subst (λ (p : Pair). HasStopBy cmp stops pairs p.0
      → user_part (last_added pairs) ≡ user_part p.0) (sym whole.1) so) has)
      (λ (more : (m : List Pair) × (pairs ≡ front ++ pair ∷ m)).
      heeds front more.0 pair more.1 has)
      (parted_last pairs last front rest pair is)

-- ---- the limit

module _ {C FP : Type 0} {order : CmpGhosts C} {filters : FilterGhosts FP}
    (choices : TableChoices order filters) (limit : ℕ) where
  limit_none : HeedsLimit choices limit []
  limit_none front rest pair is some past = absurd (not_empty front rest pair is)

  limit_one : (only : Pair) → HeedsLimit choices limit (only ∷ [])
  limit_one only front rest pair is some past = ⊎_elim
      (λ (whole : (front ≡ []) × (pair ≡ only)). absurd (some whole.0))
      (λ (more : (m : List Pair) × ([] ≡ front ++ pair ∷ m)).
      absurd (not_empty front more.0 pair more.1))
      (parted_last [] only front rest pair is)

  -- each builder that has taken these pairs is past the limit
  abbrev AllPast : List Pair → Type 0
  AllPast pairs = (core : TableBuilt C FP) → IsBuilderOf choices pairs core
      → IsPast choices limit core

  -- one pair more, which is of the last user key if those before it are past the limit
  limit_pushed : (pairs : List Pair) (last : Pair) → HeedsLimit choices limit pairs
      → (AllPast pairs → user_part (last_added pairs) ≡ user_part last.0)
      → HeedsLimit choices limit (pairs ++ last ∷ [])
  limit_pushed pairs last heeds so front rest pair is some past = ⊎_elim
      (λ (whole : (front ≡ pairs) × (pair ≡ last)).
      subst (λ ps. AllPast ps → user_part (last_added ps) ≡ user_part pair.0) (sym whole.0)
      (subst (λ (p : Pair). AllPast pairs → user_part (last_added pairs) ≡ user_part p.0)
      (sym whole.1) so) past)
      (λ (more : (m : List Pair) × (pairs ≡ front ++ pair ∷ m)).
      heeds front more.0 pair more.1 some past)
      (parted_last pairs last front rest pair is)

-- ---- tables

module _ {C FP : Type 0} {order : CmpGhosts C} {filters : FilterGhosts FP}
    (choices : TableChoices order filters) (limit : ℕ) where
  abbrev keys_in_order : List ℕ → List ℕ → Ordering
  keys_in_order = internal_cmp choices.format.order

  ends_more : (stops more : List (List ℕ)) (table pairs : List Pair)
      → EndsForCause choices limit stops table pairs
      → EndsForCause choices limit (stops ++ more) table pairs
  ends_more stops more table [] ends = tt
  ends_more stops more table (pair ∷ pairs) (inl past) = inl past
  ends_more stops more table (pair ∷ pairs) (inr has) =
      inr (stop_by_more keys_in_order stops more table pair.0 has)

  end_more : (stops more : List (List ℕ)) (pairs : List Pair) (tables : List (List Pair))
      → EachEndsForCause choices limit stops pairs tables
      → EachEndsForCause choices limit (stops ++ more) pairs tables
  end_more stops more pairs [] ends = tt
  end_more stops more pairs (table ∷ []) ends = ends_more stops more table pairs ends
  end_more stops more pairs (table ∷ next ∷ tables) ends =
      (ends_more stops more table next ends.0, end_more stops more pairs (next ∷ tables) ends.1)

  -- the pairs that follow go on
  end_longer : (stops : List (List ℕ)) (first : Pair) (pairs more : List Pair)
      (tables : List (List Pair)) → EachEndsForCause choices limit stops (first ∷ pairs) tables
      → EachEndsForCause choices limit stops ((first ∷ pairs) ++ more) tables
  end_longer stops first pairs more [] ends = tt
  end_longer stops first pairs more (table ∷ []) ends = ends
  end_longer stops first pairs more (table ∷ next ∷ tables) ends =
      (ends.0, end_longer stops first pairs more (next ∷ tables) ends.1)

  -- one table more
  end_pushed : (stops : List (List ℕ)) (pairs more : List Pair) (tables : List (List Pair))
      → EachEndsForCause choices limit stops pairs tables
      → EndsForCause choices limit stops pairs more
      → EachEndsForCause choices limit stops more (tables ++ pairs ∷ [])
  end_pushed stops pairs more [] ends last = last
  end_pushed stops pairs more (table ∷ []) ends last = (ends, last)
  end_pushed stops pairs more (table ∷ next ∷ tables) ends last =
      (ends.0, end_pushed stops pairs more (next ∷ tables) ends.1 last)

-- ---- a pair is read

module _ {C FP : Type 0} {order : CmpGhosts C} {filters : FilterGhosts FP}
    (choices : TableChoices order filters) (limit : ℕ) where
  abbrev keys : List ℕ → List ℕ → Ordering
  keys = internal_cmp choices.format.order

  -- Tables are cut whose pairs, and whose stops, are of pairs that were read, and one pair more is
  -- after all of these.
  record IsNext (read : List Pair) (pair : Pair) (stops : List (List ℕ)) (tables : List (List Pair))
      (pairs : List Pair) : Type 0 where
    pub after : (other : Pair) → Contains read other → keys other.0 pair.0 ≡ Less
    pub from_read : (stop : List ℕ) → Contains stops stop
        → (other : Pair) × Contains read other × (other.0 ≡ stop)
    pub tables_read : (table : List Pair) → Contains tables table → (other : Pair)
        → Contains table other → Contains read other
    pub pairs_read : (other : Pair) → Contains pairs other → Contains read other
    pub cut : AreCut choices limit stops tables pairs

  module _ (exact : IsExactOrder choices.format.order) {read : List Pair} {pair : Pair}
      {stops : List (List ℕ)} {tables : List (List Pair)} {pairs : List Pair}
      (next : IsNext read pair stops tables pairs) where
    total : IsTotalOrder keys
    total = internal_is_total choices.format.order exact

    -- the stops then
    abbrev stops_with : Bool → List (List ℕ)
    stops_with told = stops ++ (if told then pair.0 ∷ [] else [])

    -- the tables are cut as they were
    told_cut : (told : Bool) → AreCut choices limit (stops_with told) tables pairs
    told_cut true = let cut = next.cut in record {
      finished = λ table there. let heeds = cut.finished table there in (
        heeds_later keys stops pair.0 table
            (λ other in_table. less_back keys total other.0 pair.0
            (next.after other (next.tables_read table there other in_table))) heeds.0,
        heeds.1,
      );
      opened = (
        heeds_later keys stops pair.0 pairs
            (λ other in_pairs. less_back keys total other.0 pair.0
            (next.after other (next.pairs_read other in_pairs))) cut.opened.0,
        cut.opened.1,
      );
      ends = end_more choices limit stops (pair.0 ∷ []) pairs tables cut.ends;
    }
    told_cut false =
        subst (λ ss. AreCut choices limit ss tables pairs) (sym (append-nil stops)) next.cut

    told_read : (told : Bool) (stop : List ℕ) → Contains (stops_with told) stop
        → (other : Pair) × Contains (read ++ pair ∷ []) other × (other.0 ≡ stop)
    told_read told stop there = ⊎_elim
        (λ old. let it = next.from_read stop old in
        (it.0, Contains-append_left read (pair ∷ []) it.0 it.1, it.2))
        (by told) (Contains-append_cases stops (if told then pair.0 ∷ [] else []) stop there)
      where
        by : (b : Bool) → Contains (if b then pair.0 ∷ [] else []) stop
            → (other : Pair) × Contains (read ++ pair ∷ []) other × (other.0 ≡ stop)
        by true is = ⊎_elim (λ same. (pair, Contains-push read pair, same))
            (λ never. absurd (in_none stop never)) (in_cases pair.0 stop [] is)
        by false never = absurd (in_none stop never)

    -- no stop is after the pair's key
    none_later : (told : Bool) (stop : List ℕ) → Contains (stops_with told) stop
        → (keys stop pair.0 ≢ Greater) × (keys pair.0 stop ≡ Less → ⊥)
    none_later told stop there =
        let it = told_read told stop there in
        subst (λ k. (keys k pair.0 ≢ Greater) × (keys pair.0 k ≡ Less → ⊥)) it.2
        (by it.0 (Contains-push_cases read pair it.0 it.1))
      where
        by : (other : Pair) → Contains read other ⊎ (pair ≡ other)
            → (keys other.0 pair.0 ≢ Greater) × (keys pair.0 other.0 ≡ Less → ⊥)
        by other (inl was) =
            let less = next.after other was in (
              λ greater. absurd (cc (sym less ∙ greater)),
              not_both keys total other.0 pair.0 less,
            )
        by other (inr is) = subst (λ (p : Pair). (keys p.0 pair.0 ≢ Greater)
            × (keys pair.0 p.0 ≡ Less → ⊥)) is (
              (λ greater. absurd (cc (sym (tied_itself total pair.0) ∙ greater))),
              not_itself keys total pair.0,
            )

    -- whether the open table is to end is whether it has a stop, where it was so before
    told_ends : (told is_open ends : Bool) → (is_open ≡ false → pairs ≡ [])
        → (is_open ≡ true → (first : Pair) × (rest : List Pair) × (pairs ≡ first ∷ rest))
        → (ends ≡ true) ↔ HasStop keys stops pairs
        → ((is_open && (ends || told)) ≡ true) ↔ HasStop keys (stops_with told) pairs
    told_ends told false ends none some was = (
      λ never. absurd (cc never),
      λ has. absurd (subst (HasStop keys (stops_with told)) (none refl) has),
    )
    told_ends true true true none some was =
        (λ is. stop_more keys stops (pair.0 ∷ []) pairs (was.0 refl), λ has. refl)
    told_ends true true false none some was = (
      λ is. (let of = some refl in
          subst (HasStop keys (stops ++ pair.0 ∷ [])) (sym of.2) (
            pair.0,
            Contains-push stops pair.0,
            next.after of.0 (next.pairs_read of.0 (subst (λ ps. Contains ps of.0) (sym of.2)
                (in_front of.0 of.1))),
          )),
      λ has. refl,
    )
    told_ends false true true none some was =
        (λ is. stop_more keys stops [] pairs (was.0 refl), λ has. refl)
    told_ends false true false none some was = (
      λ never. absurd (cc never),
      λ has. was.1 (subst (λ ss. HasStop keys ss pairs) (append-nil stops) has),
    )

    -- ---- and put

    -- into the open table, which wasn't due
    put_on : (told now : Bool) (first : Pair) (rest : List Pair) → pairs ≡ first ∷ rest
        → (now ≡ true) ↔ HasStop keys (stops_with told) pairs
        → ((now ≡ true) ⊎ AllPast choices limit pairs
        → user_part (last_added pairs) ≡ user_part pair.0)
        → AreCut choices limit (stops_with told) tables (pairs ++ pair ∷ [])
    put_on told now first rest is ends same =
        let was = told_cut told in
        record {
          finished = was.finished;
          opened = (
            heeds_pushed keys (stops_with told) pairs pair was.opened.0 (λ has. same
                (inl (ends.1 (stop_of_by keys (stops_with told) pairs pair.0 has)))),
            limit_pushed choices limit pairs pair was.opened.1 (λ past. same (inr past)),
          );
          ends = subst
              (λ ps. EachEndsForCause choices limit (stops_with told) (ps ++ pair ∷ []) tables)
              (sym is) (end_longer choices limit (stops_with told) first rest (pair ∷ []) tables
              (subst (λ ps. EachEndsForCause choices limit (stops_with told) ps tables) is was.ends));
        }

    put_on_ends : (told now : Bool) (first : Pair) (rest : List Pair) → pairs ≡ first ∷ rest
        → (now ≡ true) ↔ HasStop keys (stops_with told) pairs
        → (now ≡ true) ↔ HasStop keys (stops_with told) (pairs ++ pair ∷ [])
    put_on_ends told now first rest is ends =
        subst (λ ps. (now ≡ true) ↔ HasStop keys (stops_with told) (ps ++ pair ∷ [])) (sym is)
        (subst (λ ps. (now ≡ true) ↔ HasStop keys (stops_with told) ps) is ends)

    -- as the first of a table, after the open one ended
    put_after : (told : Bool) (first : Pair) (rest : List Pair) → pairs ≡ first ∷ rest
        → EndsForCause choices limit (stops_with told) pairs (pair ∷ [])
        → AreCut choices limit (stops_with told) (with_table tables pairs) (pair ∷ [])
    put_after told first rest is ends =
        let was = told_cut told in
        subst (λ ts. AreCut choices limit (stops_with told) ts (pair ∷ []))
        (ap (λ ps. tables ++ ps ∷ []) is ∙ sym (ap (with_table tables) is)) (record {
          finished = λ table there. ⊎_elim (λ old. was.finished table old)
              (λ same. subst (GoesOnWithinKey choices limit (stops_with told)) same was.opened)
              (Contains-push_cases tables pairs table there);
          opened = (heeds_one keys (stops_with told) pair, limit_one choices limit pair);
          ends = end_pushed choices limit (stops_with told) pairs (pair ∷ []) tables was.ends ends;
        })

    -- as the first of all
    put_first : (told : Bool) → AreCut choices limit (stops_with told) [] (pair ∷ [])
    put_first told = record {
      finished = λ table there. absurd (in_none table there);
      opened = (heeds_one keys (stops_with told) pair, limit_one choices limit pair);
      ends = tt;
    }

    put_anew : (told : Bool) → (false ≡ true) ↔ HasStop keys (stops_with told) (pair ∷ [])
    put_anew told = (
      λ never. absurd (cc never),
      λ has. absurd ((none_later told has.0 has.1).1 has.2),
    )

-- ---- a merge

in_all : (tables : List (List Pair)) (table : List Pair) → Contains tables table → (other : Pair)
    → Contains table other → Contains (all_pairs tables) other
in_all [] table there other inside = absurd (in_none table there)
in_all (first ∷ tables) table there other inside = ⊎_elim
    (λ (same : first ≡ table). Contains-append_left first (all_pairs tables) other
    (subst (λ ps. Contains ps other) (sym same) inside))
    (λ later. Contains-append_right first (all_pairs tables) other
    (in_all tables table later other inside))
    (in_cases first table tables there)

-- why an open table is due
due_since : (ends past same : Bool) → ((ends || past) && not same) ≡ true
    → (ends ≡ true) ⊎ (past ≡ true)
due_since true past same due = inl refl
due_since false true same due = inr refl
due_since false false same due = absurd (cc due)

due_same : (one other : List ℕ) → not (bytes_eq one other) ≡ false → one ≡ other
due_same one other due = (bytes_decides one other).0 (by (bytes_eq one other) due)
  where
    by : (b : Bool) → not b ≡ false → b ≡ true
    by true e = refl
    by false e = absurd (cc e)

-- and that it isn't, though it is to end or past the limit
same_user : (ends past : Bool) (one other : List ℕ)
    → ((ends || past) && not (bytes_eq one other)) ≡ false → (ends ≡ true) ⊎ (past ≡ true)
    → one ≡ other
same_user ends past one other due (inl is) =
    due_same one other (subst (λ b. ((b || past) && not (bytes_eq one other)) ≡ false) is due)
same_user true past one other due (inr is) = due_same one other due
same_user false past one other due (inr is) =
    due_same one other (subst (λ b. (b && not (bytes_eq one other)) ≡ false) is due)

-- whether the open table is to end, after a pair was put
abbrev ends_in : {T : Type 0} → Bool → Option T → Bool → Bool
ends_in true one ends = false
ends_in false one ends = is_some one && ends

ends_are : {E C FP F : Type 0} (due : Bool) (outputs : OutputsValue E C FP F)
    → ends_after due outputs ≡ ends_in due outputs.unfinished outputs.ends
ends_are true outputs = refl
ends_are false outputs = refl

module _ {C FP : Type 0} {order : CmpGhosts C} {filters : FilterGhosts FP}
    (merge : Merge order filters) {E F : Type 0} (env : EnvGhosts E F) {X : Type 0}
    (stops_before : X → List ℕ → Bool → X → Type 0) (limit : ℕ) (before : X) (first : ℕ)
    {T W : Type 0} (walk : WalkGhosts W E T) (start : E × T) (it : W) where
  -- These pairs were read and the tables cut so, and the walk, if it is over a list and bears new
  -- tables, has passed them.
  pub record CutSoFar (next : ℕ) (at : E × T) (moved : W) (passing : Passing)
      (outputs : OutputsValue E C FP F) (now : X) : Type 0 where
    pub read : List Pair
    pub has : HasCut merge env stops_before limit before first read next at.0 passing outputs now
    pub walked : BearsNewTables env walk merge.store first start → (pairs : List Pair)
        → walk.over start it (key_order order merge.choices.cmp) pairs
        → HasPassed merge env walk first start it pairs read at moved

module _ {C FP : Type 0} {order : CmpGhosts C} {filters : FilterGhosts FP}
    (merge : Merge order filters) {E F : Type 0} (env : EnvGhosts E F)
    (exact : IsExactOrder merge.choices.format.order)
    (cmp_is : order.cmp merge.choices.cmp ≡ internal_cmp merge.choices.format.order) (first : ℕ)
    {X : Type 0} (stops_before : X → List ℕ → Bool → X → Type 0) (limit : ℕ) (before : X) where
  abbrev Has : List Pair → ℕ → E → Passing → OutputsValue E C FP F → X → Type 0
  Has = HasCut merge env stops_before limit before first

  abbrev in_order : List ℕ → List ℕ → Ordering
  in_order = internal_cmp merge.choices.format.order

  -- before the first pair
  pub cut_none : (at : E) {passing : Passing} → IsJustBefore passing None
      → Has [] first at passing no_outputs before
  unfolding merged_none
  cut_none at just = record {
    merged = merged_none merge env exact cmp_is at just;
    stops = [];
    are_stops = unasked;
    from_read = λ stop there. absurd (in_none stop there);
    cut = record {
      finished = λ table there. absurd (in_none table there);
      opened = (heeds_none in_order [], limit_none merge.choices limit);
      ends = tt;
    };
    ends = (λ never. absurd (cc never), λ has. absurd has);
  }

  -- a move of the walk changes nothing
  pub cut_still : {read : List Pair} {next : ℕ} {from to : E} {passing : Passing}
      {outputs : OutputsValue E C FP F} {now : X} → LeavesFiles env from to
      → Has read next from passing outputs now → Has read next to passing outputs now
  unfolding merged_still
  cut_still still cut = record {
    merged = merged_still merge env still cut.merged;
    stops = cut.stops;
    are_stops = cut.are_stops;
    from_read = cut.from_read;
    cut = cut.cut;
    ends = cut.ends;
  }

  open_none : (at : E) (tables : List (List Pair)) (pairs : List Pair)
      (one : Option (TableFile E C FP F))
      → IsOpenAfter merge.choices env merge.store at tables one pairs → is_some one ≡ false
      → pairs ≡ []
  open_none at tables pairs None opened e = opened.1
  open_none at tables pairs (Some table) opened e = absurd (cc e)

  open_some : (at : E) (tables : List (List Pair)) (pairs : List Pair)
      (one : Option (TableFile E C FP F))
      → IsOpenAfter merge.choices env merge.store at tables one pairs → is_some one ≡ true
      → (pair : Pair) × (rest : List Pair) × (pairs ≡ pair ∷ rest)
  open_some at tables pairs None opened e = absurd (cc e)
  open_some at tables pairs (Some table) opened e =
      ((table.smallest, opened.first.0), opened.first.1, opened.first.2)

  module _ {read : List Pair} {next : ℕ} {from : E} {passing : Passing}
      {outputs : OutputsValue E C FP F} {at : X} (cut : Has read next from passing outputs at)
      (pair : Pair) (are : AreRead merge (read ++ pair ∷ [])) (told : Bool) (now : X)
      (said : stops_before at pair.0 told now) where
    is_next : (let merged = cut.merged in
        IsNext merge.choices limit read pair cut.stops merged.tables merged.pairs)
    is_next = let merged = cut.merged in record {
      after = rises_to merge.choices.format.order exact read pair are.rising;
      from_read = cut.from_read;
      tables_read = λ table there other inside.
          (of_filter (stays merge.smallest merge.is_base read) read other
          (subst (λ ps. Contains ps other) merged.left
          (Contains-append_left (all_pairs merged.tables) merged.pairs other
          (in_all merged.tables table there other inside)))).0;
      pairs_read = λ other there. open_read merge env exact cmp_is merged other there;
      cut = cut.cut;
    }

    abbrev stops : List (List ℕ)
    stops = cut.stops ++ (if told then pair.0 ∷ [] else [])

    are_stops : AreStops stops_before before (map (λ (p : Pair). p.0) (read ++ pair ∷ [])) stops now
    are_stops = subst (λ ks. AreStops stops_before before ks stops now)
        (sym (map-append (λ (p : Pair). p.0) read (pair ∷ [])))
        (asked pair.0 told cut.are_stops said)

    abbrev to_end : Bool
    to_end = is_some outputs.unfinished && (outputs.ends || told)

    ends_then : (let merged = cut.merged in
        (to_end ≡ true) ↔ HasStop in_order stops merged.pairs)
    ends_then = let merged = cut.merged in let have = merged.have in
        told_ends merge.choices limit exact is_next told (is_some outputs.unfinished) outputs.ends
        (open_none from merged.tables merged.pairs outputs.unfinished have.opened)
        (open_some from merged.tables merged.pairs outputs.unfinished have.opened) cut.ends

    -- its entry goes
    pub cut_gone : {ended : OutputsValue E C FP F} (left : Passing)
        (result : Result (Unit {0}) Status)
        → (ended.unfinished ≡ outputs.unfinished) × (ended.done ≡ outputs.done)
        → ended.ends ≡ to_end
        → goes_after merge.smallest merge.is_base (last_entry None read) (entry_of_pair pair) ≡ true
        → OnOk result (IsJustBefore left (Some (entry_of_pair pair)))
        → IfErr result IsOutOfMemory → OnOk result (Has (read ++ pair ∷ []) next from left ended now)
    unfolding taken_gone
    cut_gone left (Ok x) same ends went just memory = let merged = cut.merged in record {
      merged = (taken_gone merge env exact cmp_is merged pair are (Ok x) same went just memory).ok;
      stops = stops;
      are_stops = are_stops;
      from_read = told_read merge.choices limit exact is_next told;
      cut = told_cut merge.choices limit exact is_next told;
      ends = subst (λ b. (b ≡ true) ↔ HasStop in_order stops merged.pairs) (sym ends) ends_then;
    }
    cut_gone left (Err status) same ends went just memory = tt

    -- what putting it makes of the tables
    abbrev IsPutSo : Bool → Option (TableFile E C FP F) → Bool → Type 0
    IsPutSo due one ends = let merged = cut.merged in
        let put = pairs_after due merged.pairs pair in
        AreCut merge.choices limit stops (tables_after due merged.tables merged.pairs) put
        × ((ends_in due one ends ≡ true) ↔ HasStop in_order stops put)

    put_so : (one : Option (TableFile E C FP F))
        → (let merged = cut.merged in
        IsOpenAfter merge.choices env merge.store from merged.tables one merged.pairs)
        → (ends : Bool)
        → (let merged = cut.merged in (ends ≡ true) ↔ HasStop in_order stops merged.pairs)
        → (due : Bool) → is_due_in limit pair.0 ends one ≡ due → IsPutSo due one ends
    put_so None opened ends were true due = absurd (cc due)
    put_so None opened ends were false due = let merged = cut.merged in
        subst (λ ts. AreCut merge.choices limit stops ts (merged.pairs ++ pair ∷ [])
        × ((false ≡ true) ↔ HasStop in_order stops (merged.pairs ++ pair ∷ []))) (sym opened.0)
        (subst (λ ps. AreCut merge.choices limit stops [] (ps ++ pair ∷ [])
        × ((false ≡ true) ↔ HasStop in_order stops (ps ++ pair ∷ []))) (sym opened.1) (
          put_first merge.choices limit exact is_next told,
          put_anew merge.choices limit exact is_next told,
        ))
    put_so (Some table) opened ends were true due =
        let some = open_some from cut.merged.tables cut.merged.pairs (Some table) opened refl in (
          put_after merge.choices limit exact is_next told some.0 some.1 some.2 why,
          put_anew merge.choices limit exact is_next told,
        )
      where
        why : (let merged = cut.merged in
            EndsForCause merge.choices limit stops merged.pairs (pair ∷ []))
        why = let merged = cut.merged in ⊎_elim
            (λ to. inr (stop_by_last in_order stops merged.pairs pair.0
            (λ stop there. (none_later merge.choices limit exact is_next told stop there).0)
            (were.0 to)))
            (λ past. inl (
              table.core,
              record {
                start = opened.start;
                is_new = opened.is_new;
                written = opened.written;
                taken = opened.taken;
              },
              ltb-true limit (min (table_estimate table.core) (2 ^ 64 - 1)) past,
            ))
            (due_since ends (nat_lt limit (min (table_estimate table.core) (2 ^ 64 - 1)))
            (bytes_eq (user_part (last_of table.core)) (user_part pair.0)) due)
    put_so (Some table) opened ends were false due =
        let some = open_some from cut.merged.tables cut.merged.pairs (Some table) opened refl in (
          put_on merge.choices limit exact is_next told ends some.0 some.1 some.2 were same,
          put_on_ends merge.choices limit exact is_next told ends some.0 some.1 some.2 were,
        )
      where
        past : Bool
        past = nat_lt limit (min (table_estimate table.core) (2 ^ 64 - 1))

        same : (let merged = cut.merged in
            (ends ≡ true) ⊎ AllPast merge.choices limit merged.pairs
            → user_part (last_added merged.pairs) ≡ user_part pair.0)
        same so = ap user_part (sym opened.last)
            ∙ same_user ends past (user_part (last_of table.core)) (user_part pair.0) due
            (⊎_elim (λ is. inl is) (λ all. inr (lt-ltb limit
            (min (table_estimate table.core) (2 ^ 64 - 1)) (all table.core (record {
              start = opened.start;
              is_new = opened.is_new;
              written = opened.written;
              taken = opened.taken;
            })))) so)

    -- it is put
    pub cut_put : {ended new : OutputsValue E C FP F} {later : ℕ} {to : E} {u : Unit {0}}
        (left : Passing) (result : Result (Unit {0}) Status)
        → ended.unfinished ≡ outputs.unfinished → ended.ends ≡ to_end
        → goes_after merge.smallest merge.is_base (last_entry None read) (entry_of_pair pair)
        ≡ false
        → (let merged = cut.merged in PutsPair merge.choices env merge.store first merged.tables
        merged.pairs limit pair from ended (Ok u) later to new)
        → OnOk result (IsJustBefore left (Some (entry_of_pair pair)))
        → IfErr result IsOutOfMemory → OnOk result (Has (read ++ pair ∷ []) later to left new now)
    unfolding taken_put
    cut_put {ended} left (Ok x) same ends stayed puts just memory =
        let merged = cut.merged in
        let due = is_due limit pair.0 ended in
        let have = merged.have in
        let opened = subst (λ o. IsOpenAfter merge.choices env merge.store from merged.tables o
        merged.pairs) (sym same) have.opened in
        let were = subst (λ b. (b ≡ true) ↔ HasStop in_order stops merged.pairs) (sym ends)
        ends_then in
        let so = put_so ended.unfinished opened ended.ends were due refl in
        record {
          merged = (taken_put merge env exact cmp_is merged pair are (Ok x) stayed puts just
              memory).ok;
          stops = stops;
          are_stops = are_stops;
          from_read = told_read merge.choices limit exact is_next told;
          cut = so.0;
          ends = subst (λ b. (b ≡ true) ↔ HasStop in_order stops (pairs_after due merged.pairs pair))
              (sym (puts.ends ∙ ends_are due ended)) so.1;
        }
    cut_put left (Err status) same ends stayed puts just memory = tt

  -- ---- the loop

  module _ {T W : Type 0} (walk : WalkGhosts W E T) (start : E × T) (it : W) where
    abbrev keys_of : KeyOrder
    keys_of = key_order order merge.choices.cmp

    abbrev SoFar : ℕ → E × T → W → Passing → OutputsValue E C FP F → X → Type 0
    SoFar = CutSoFar merge env stops_before limit before first walk start it

    -- the walk is at its first pair
    pub cut_begun : {at : E × T} {moved : W} {passing : Passing} {outputs : OutputsValue E C FP F}
        → Has [] first at.0 passing outputs before
        → ((pairs : List Pair) → walk.over start it keys_of pairs
        → walk.is_at at moved keys_of pairs (position_within pairs 0))
        → SoFar first at moved passing outputs before
    cut_begun has begins = record {
      read = [];
      has = has;
      walked = λ bears pairs over. record {
        position = position_within pairs 0;
        here = begins pairs over;
        before = before_first pairs;
      };
    }

    module _ {next : ℕ} {at : E} {tables : T} {moved : W} {passing : Passing}
        {outputs : OutputsValue E C FP F} {now : X}
        (so_far : SoFar next (at, tables) moved passing outputs now) where
      -- a pair was taken, and the walk is at the next one
      pub cut_next : {pair : Pair} {later : ℕ} {to : E} {end : E × T} {on : W} {left : Passing}
          {new : OutputsValue E C FP F} {after : X}
          → IsReachedFrom env walk merge.store first start (at, tables)
          → ChangesNewTables env merge.store first later at to → LeavesFiles env to end.0
          → ((pairs : List Pair) (position : Option ℕ)
          → walk.is_at (at, tables) moved keys_of pairs position
          → Some pair ≡ pair_at pairs position)
          → Has (so_far.read ++ pair ∷ []) later to left new after
          → ((pairs : List Pair) (position : Option ℕ)
          → walk.is_at (to, tables) moved keys_of pairs position
          → walk.is_at end on keys_of pairs (next_position pairs position))
          → SoFar later end on left new after
      unfolding cut_still
      cut_next {pair} {later} {to} come changes still here has moves = record {
        read = so_far.read ++ pair ∷ [];
        has = cut_still still has;
        walked = λ bears pairs over.
            let past = so_far.walked bears pairs over in
            record {
              position = next_position pairs past.position;
              here = moves pairs past.position (bears.stays_at at to tables later come changes moved
                  keys_of pairs past.position past.here);
              before = before_pair pairs past.position pair (here pairs past.position past.here)
                  ∙ ap (λ ps. ps ++ pair ∷ []) past.before;
            };
      }

      -- the last table is finished
      cut_finished : {to : E}
          → ((pairs : List Pair) (position : Option ℕ)
          → walk.is_at (at, tables) moved keys_of pairs position
          → IsPosition pairs position × (None ≡ pair_at pairs position))
          → {files : List FileMetaData} → (let has = so_far.has in let merged = has.merged in
          AreTables merge.choices env merge.store first next to files
          (with_table merged.tables merged.pairs))
          → CutsInto merge env stops_before limit before first walk start it next files to now
      unfolding merged_all
      cut_finished none are = let cut = so_far.has in let merged = cut.merged in record {
        read = so_far.read;
        into = merged_all merge env exact cmp_is merged are;
        whole = λ bears pairs over.
            let past = so_far.walked bears pairs over in
            let end = none pairs past.position past.here in
            sym (taken_all pairs past.position end.0 end.1) ∙ past.before;
        stops = cut.stops;
        are_stops = cut.are_stops;
        cut = by cut.stops merged.pairs cut.cut;
      }
        where
          by : (those : List (List ℕ)) {made : List (List Pair)} (pairs : List Pair)
              → AreCut merge.choices limit those made pairs
              → AreCut merge.choices limit those (with_table made pairs) []
          by those [] are_cut = are_cut
          by those {made} (pair ∷ pairs) are_cut = record {
            finished = λ table there. ⊎_elim (λ old. are_cut.finished table old)
                (λ same. subst (GoesOnWithinKey merge.choices limit those) same are_cut.opened)
                (Contains-push_cases made (pair ∷ pairs) table there);
            opened = (heeds_none in_order those, limit_none merge.choices limit);
            ends = end_pushed merge.choices limit those (pair ∷ pairs) [] made are_cut.ends tt;
          }

      -- or not
      pub cut_ended : {to : E} {Y : Type 0} (items : Y → List FileMetaData)
          → ((pairs : List Pair) (position : Option ℕ)
          → walk.is_at (at, tables) moved keys_of pairs position
          → IsPosition pairs position × (None ≡ pair_at pairs position))
          → (result : Result Y Status)
          → (let has = so_far.has in let merged = has.merged in
          FinishesOpen merge.choices env merge.store first merged.tables merged.pairs next at
          result items to)
          → IfOk result (λ files. CutsInto merge env stops_before limit before first walk start it
          next (items files) to now)
      cut_ended items none (Ok files) finishes = cut_finished none finishes.ok
      cut_ended items none (Err status) finishes = tt
