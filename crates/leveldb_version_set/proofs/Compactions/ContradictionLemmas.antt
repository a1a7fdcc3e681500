-- Pairs that are read from a compaction's inputs agree with the edits of these, or one of them
-- contradicts them.
use Rattle.std.proofs.Common.{◌≡◌, ◌≢◌, ◌⊎◌, inl, inr, ⊎_elim, ℕ, ◌<◌, ◌≤◌, Bool, true, false, not, List, [], ◌∷◌, ◌++◌, length, refl, sym, ◌∙◌, ap, subst, arith, append-nil, append_assoc}
use Rattle.std.specs.Prelude.{Contains}
use Rattle.std.specs.List.{list_any}
use Rattle.std.specs.Ordering.{is_lt}
use Rattle.std.specs.declared.cmp.Ordering.{Ordering}
use Rattle.std.specs.declared.cmp.Ordering.TheVariants.{Less}
use Rattle.std.proofs.lemmas.Bool.{cases_lt}
use Rattle.std.proofs.lemmas.List.Elements.{Contains-push_cases, Contains-append_right}
use Rattle.leveldb_base.specs.CmpLaws.{length-internal_key, user_part-internal_key}
use Rattle.leveldb_base.specs.History.{AreRising}
use Rattle.leveldb_base.specs.KeyTypes.{internal_cmp, user_part}
use Rattle.leveldb_base.specs.Types.{Pair}
use Rattle.leveldb_base.proofs.EntriesLemmas.{map_in}
use Rattle.leveldb_base.proofs.HistoryLemmas.{each_after, in_cases, in_front, in_none}
use Rattle.leveldb_base.proofs.OrderLemmas.{is_false, lt_less, not_lt}
use Rattle.leveldb_base.proofs.ThinningLemmas.{finds_it, found_by}
use Rattle.leveldb_version_set.proofs.Compactions.CompactionLemmas.{table_of}
use Rattle.leveldb_version.proofs.Versions.DeeperLevelsLemmas.{not_so}
use Rattle.leveldb_version.proofs.Versions.PairwiseLemmas.{each_first}
use Rattle.leveldb_version.proofs.Tables.TablesInTurnLemmas.{rising_append}
use Rattle.leveldb_files.proofs.Levels.TablesLemmas.{UpTo, up_to_itself, up_to_next}
use Rattle.leveldb_version_set.specs.Compactions.Contradictions.{AgreeOrContradict, AgreeWithEdits, AgreedFilesLieWithin, ContradictsEdits, CutFilesAreApart, HasContradiction, IsAmongInputs, TablesAgreeWithEdits, after_all, before_all, not_after, untagged}
use Rattle.leveldb_files.specs.Levels.Levels.{LiveTable}
use Rattle.leveldb_files.specs.Stores.Store.{IsInternalPair}
use Rattle.leveldb_files.specs.Edits.Edit.{NewFile}

-- ---- one or the other

-- a test passes for an element, or for none
one_or_none : {A : Type 0} (test : A → Bool) (xs : List A)
    → ((x : A) × Contains xs x × (test x ≡ true)) ⊎ ((x : A) → Contains xs x → test x ≡ false)
one_or_none {A} test xs = by (list_any test xs) refl
  where
    by : (b : Bool) → list_any test xs ≡ b
        → ((x : A) × Contains xs x × (test x ≡ true)) ⊎ ((x : A) → Contains xs x → test x ≡ false)
    by true e = inl (found_by test xs e)
    by false e = inr (λ x c. is_false (test x)
        (λ f. let never : true ≡ false = sym (finds_it test xs x c f) ∙ e in cc))

module _ (cmp : List ℕ → List ℕ → Ordering) (inputs : List NewFile) where
  abbrev in_order : List ℕ → List ℕ → Ordering
  in_order = internal_cmp cmp

  -- all of some pairs are before one, or one of them isn't
  after_or : (front : List Pair) (pair : Pair)
      → ((one : Pair) → Contains front one → in_order one.0 pair.0 ≡ Less)
      ⊎ ContradictsEdits cmp inputs front pair
  after_or front pair = ⊎_elim
      (λ (found : (one : Pair) × Contains front one
      × (not (is_lt (in_order one.0 pair.0)) ≡ true)).
      inr (not_after found.0 found.1 (not_lt _ (not_so _ found.2))))
      (λ (none : (one : Pair) → Contains front one
      → not (is_lt (in_order one.0 pair.0)) ≡ false).
      inl (λ one c. lt_less _ (so_is (is_lt (in_order one.0 pair.0)) (none one c))))
      (one_or_none (λ (one : Pair). not (is_lt (in_order one.0 pair.0))) front)
    where
      so_is : (b : Bool) → not b ≡ false → b ≡ true
      so_is true e = refl
      so_is false e = cc

  -- a key lies within the inputs' ranges, or outside all of them on one side
  among_or : (front : List Pair) (pair : Pair)
      → IsAmongInputs cmp inputs (user_part pair.0) ⊎ ContradictsEdits cmp inputs front pair
  among_or front pair = by (one_or_none (λ (input : NewFile).
      not (is_lt (cmp (user_part pair.0) (user_part input.smallest)))) inputs)
      (one_or_none (λ (input : NewFile).
      not (is_lt (cmp (user_part input.largest) (user_part pair.0)))) inputs)
    where
      so_is : (b : Bool) → not b ≡ false → b ≡ true
      so_is true e = refl
      so_is false e = cc

      by : ((input : NewFile) × Contains inputs input
          × (not (is_lt (cmp (user_part pair.0) (user_part input.smallest))) ≡ true))
          ⊎ ((input : NewFile) → Contains inputs input
          → not (is_lt (cmp (user_part pair.0) (user_part input.smallest))) ≡ false)
          → ((input : NewFile) × Contains inputs input
          × (not (is_lt (cmp (user_part input.largest) (user_part pair.0))) ≡ true))
          ⊎ ((input : NewFile) → Contains inputs input
          → not (is_lt (cmp (user_part input.largest) (user_part pair.0))) ≡ false)
          → IsAmongInputs cmp inputs (user_part pair.0) ⊎ ContradictsEdits cmp inputs front pair
      by (inr none) y = inr (before_all (λ input c. lt_less _
          (so_is (is_lt (cmp (user_part pair.0) (user_part input.smallest))) (none input c))))
      by (inl from) (inr none) = inr (after_all (λ input c. lt_less _
          (so_is (is_lt (cmp (user_part input.largest) (user_part pair.0))) (none input c))))
      by (inl from) (inl to) = inl (record {
        from = (from.0, from.1, not_lt _ (not_so _ from.2));
        to = (to.0, to.1, not_lt _ (not_so _ to.2));
      })

  agree_none : AgreeWithEdits cmp inputs []
  agree_none = record {
    tagged = λ pair c. absurd (in_none pair c);
    rising = tt;
    within = λ pair c. absurd (in_none pair c);
  }

  -- one more pair agrees
  agree_more : (front : List Pair) (pair : Pair) → AgreeWithEdits cmp inputs front
      → 8 ≤ length pair.0
      → ((one : Pair) → Contains front one → in_order one.0 pair.0 ≡ Less)
      → IsAmongInputs cmp inputs (user_part pair.0)
      → AgreeWithEdits cmp inputs (front ++ pair ∷ [])
  agree_more front pair agreed long after among = record {
    tagged = λ other c. ⊎_elim (λ (d : Contains front other). agreed.tagged other d)
        (λ (e : pair ≡ other). subst (λ (p : Pair). 8 ≤ length p.0) e long)
        (Contains-push_cases front pair other c);
    rising = rising_append in_order front (pair ∷ []) agreed.rising (tt, tt)
        (λ a b c d. ⊎_elim
        (λ (e : pair ≡ b). subst (λ (p : Pair). in_order a.0 p.0 ≡ Less) e (after a c))
        (λ (none : Contains [] b). absurd (in_none b none)) (in_cases pair b [] d));
    within = λ other c. ⊎_elim (λ (d : Contains front other). agreed.within other d)
        (λ (e : pair ≡ other). subst (λ (p : Pair). IsAmongInputs cmp inputs (user_part p.0)) e
        among)
        (Contains-push_cases front pair other c);
  }

  agrees_or : (front : List Pair) (pair : Pair) → AgreeWithEdits cmp inputs front
      → AgreeWithEdits cmp inputs (front ++ pair ∷ []) ⊎ ContradictsEdits cmp inputs front pair
  agrees_or front pair agreed = ⊎_elim
      (λ (short : length pair.0 < 8). inr (untagged short))
      (λ (long : 8 ≤ length pair.0). by long (after_or front pair) (among_or front pair))
      (cases_lt (length pair.0) 8)
    where
      by : 8 ≤ length pair.0 → ((one : Pair) → Contains front one → in_order one.0 pair.0 ≡ Less)
          ⊎ ContradictsEdits cmp inputs front pair
          → IsAmongInputs cmp inputs (user_part pair.0) ⊎ ContradictsEdits cmp inputs front pair
          → AgreeWithEdits cmp inputs (front ++ pair ∷ []) ⊎ ContradictsEdits cmp inputs front pair
      by long (inr contradicts) y = inr contradicts
      by long (inl after) (inr contradicts) = inr contradicts
      by long (inl after) (inl among) = inl (agree_more front pair agreed long after among)

  read_on : (front rest : List Pair) → AgreeWithEdits cmp inputs front
      → AgreeWithEdits cmp inputs (front ++ rest) ⊎ HasContradiction cmp inputs (front ++ rest)
  read_on front [] agreed =
      inl (subst (AgreeWithEdits cmp inputs) (sym (append-nil front)) agreed)
  read_on front (pair ∷ rest) agreed =
      by (agrees_or front pair agreed) (λ more. read_on (front ++ pair ∷ []) rest more)
    where
      again : (front ++ pair ∷ []) ++ rest ≡ front ++ pair ∷ rest
      again = append_assoc front (pair ∷ []) rest

      by : AgreeWithEdits cmp inputs (front ++ pair ∷ []) ⊎ ContradictsEdits cmp inputs front pair
          → (AgreeWithEdits cmp inputs (front ++ pair ∷ [])
          → AgreeWithEdits cmp inputs ((front ++ pair ∷ []) ++ rest)
          ⊎ HasContradiction cmp inputs ((front ++ pair ∷ []) ++ rest))
          → AgreeWithEdits cmp inputs (front ++ pair ∷ rest)
          ⊎ HasContradiction cmp inputs (front ++ pair ∷ rest)
      by (inr contradicts) more = inr (record {
        front = front;
        pair = pair;
        rest = rest;
        pairs_are = refl;
        agreed = agreed;
        contradicts = contradicts;
      })
      by (inl it) more = subst (λ ps. AgreeWithEdits cmp inputs ps ⊎ HasContradiction cmp inputs ps)
          again (more it)

  -- ---- not both

  -- in rising pairs what is in front is before what follows
  rising_across : (front : List Pair) (pair : Pair) (rest : List Pair)
      → AreRising in_order (front ++ pair ∷ rest) → (one : Pair) → Contains front one
      → in_order one.0 pair.0 ≡ Less
  rising_across [] pair rest rising one c = absurd (in_none one c)
  rising_across (first ∷ front) pair rest rising one c = ⊎_elim
      (λ (e : first ≡ one). subst (λ (p : Pair). in_order p.0 pair.0 ≡ Less) e
      (lt_less _ (each_after in_order first.0 (front ++ pair ∷ rest) pair rising.0
      (Contains-append_right front (pair ∷ rest) pair (in_front pair rest)))))
      (λ (d : Contains front one). rising_across front pair rest rising.1 one d)
      (in_cases first one front c)

  never : (front : List Pair) (pair : Pair) (rest : List Pair)
      → AgreeWithEdits cmp inputs (front ++ pair ∷ rest)
      → ContradictsEdits cmp inputs front pair → ⊥
  never front pair rest agreed contradicts = by contradicts
    where
      there : Contains (front ++ pair ∷ rest) pair
      there = Contains-append_right front (pair ∷ rest) pair (in_front pair rest)

      by : ContradictsEdits cmp inputs front pair → ⊥
      by (untagged short) = let long = agreed.tagged pair there in omega (arith, long, short)
      by (not_after one c differs) =
          differs (rising_across front pair rest agreed.rising one c)
      by (before_all all) =
          let from = (agreed.within pair there).from in from.2 (all from.0 from.1)
      by (after_all all) = let to = (agreed.within pair there).to in to.2 (all to.0 to.1)

pub agree_or_contradict : AgreeOrContradict
agree_or_contradict = record {
  one = λ cmp inputs pairs. read_on cmp inputs [] pairs (agree_none cmp inputs);
  not_both = λ cmp inputs pairs agreed it. never cmp inputs it.front it.pair it.rest
      (subst (AgreeWithEdits cmp inputs) it.pairs_are agreed) it.contradicts;
}

-- ---- tables

pub tables_agree_with_edits : TablesAgreeWithEdits
tables_agree_with_edits cmp tables pairs entries bounded each among rising = record {
  tagged = λ pair c.
      let found = each_first IsInternalPair pairs entries pair each c in
      let long = length-internal_key found.0.key found.0.sequence found.2.kind in
      let same = ap length found.2.key in
      omega (arith, long, same);
  rising = rising;
  within = λ pair c.
      let found = each_first IsInternalPair pairs entries pair each c in
      let at = table_of tables found.0 (among found.0 found.1) in
      let key : found.0.key ≡ user_part pair.0 =
      sym (user_part-internal_key found.0.key found.0.sequence found.2.kind)
      ∙ ap user_part (sym found.2.key) in
      let range = (bounded at.0 at.1).within found.0 at.2 in
      let file = map_in (λ (t : LiveTable). t.file) tables at.0 at.1 in
      record {
        from = (
          at.0.file,
          file,
          subst (λ k. cmp k (user_part at.0.file.smallest) ≢ Less) key range.from,
        );
        to = (
          at.0.file,
          file,
          subst (λ k. cmp (user_part at.0.file.largest) k ≢ Less) key range.to,
        );
      };
}

-- ---- files that are made of such pairs

pub agreed_files_lie_within : AgreedFilesLieWithin
agreed_files_lie_within cmp total inputs pairs kept file agreed made = record {
  ordered = not_lt _ ordered;
  from = (agreed.within first (made.among first first_there)).from;
  to = (agreed.within last (made.among last last_there)).to;
}
  where
    first : Pair
    first = (file.smallest, made.smallest.0)

    last : Pair
    last = (file.largest, made.largest.1)

    first_there : Contains kept first
    first_there = subst (λ ps. Contains ps first) (sym made.smallest.2)
        (in_front first made.smallest.1)

    last_there : Contains kept last
    last_there = subst (λ ps. Contains ps last) (sym made.largest.2)
        (Contains-append_right made.largest.0 (last ∷ []) last (in_front last []))

    rises : AreRising (internal_cmp cmp) (first ∷ made.smallest.1)
    rises = subst (AreRising (internal_cmp cmp)) made.smallest.2 made.rising

    ordered : UpTo cmp total file.smallest file.largest
    ordered = ⊎_elim
        (λ (e : first ≡ last).
        subst (λ (p : Pair). UpTo cmp total file.smallest p.0) e
        (up_to_itself cmp total file.smallest))
        (λ (c : Contains made.smallest.1 last). up_to_next cmp total file.smallest file.largest
        (lt_less _ (each_after (internal_cmp cmp) file.smallest made.smallest.1 last rises.0 c)))
        (in_cases first last made.smallest.1
        (subst (λ ps. Contains ps last) made.smallest.2 last_there))

pub cut_files_are_apart : CutFilesAreApart
cut_files_are_apart cmp pairs these those a b one other cut =
    let last = one.largest in
    let first = other.smallest in
    inl (cut (a.largest, last.1) (b.smallest, first.0)
    (subst (λ ps. Contains ps (a.largest, last.1)) (sym last.2)
    (Contains-append_right last.0 ((a.largest, last.1) ∷ []) (a.largest, last.1)
    (in_front (a.largest, last.1) [])))
    (subst (λ ps. Contains ps (b.smallest, first.0)) (sym first.2)
    (in_front (b.smallest, first.0) first.1)))
