-- Sets of entries that gain some.
use Rattle.std.proofs.Common.{◌≡◌, ◌≤◌, ◌<◌, ◌+◌, ⊎_elim, ℕ, suc, List, [], ◌∷◌, ap, subst, arith, ◌^◌, Bool, true, false, ◌++◌, get_or, length-append, Result, Ok, Err, refl, sym, ◌∙◌, inl, inr, ◌-◌, length, append-nil, append_assoc}
use Rattle.std.proofs.lemmas.List.Sums.{sum_by-cons}
use Rattle.std.specs.Prelude.{Contains, ◌↔◌, All, IsErrAnd}
use Rattle.std.proofs.lemmas.Bool.{OnTrue_at, OnFalse_at}
use Rattle.std.proofs.lemmas.List.Elements.{Contains-push_cases, All-append, All-cons, All-tail, Contains-append_left, Contains-append_right, Contains-append_cases, at_from_Contains, Contains-get_or}
use Rattle.std.proofs.lemmas.Cmp.{ranked}
use Rattle.std.proofs.lemmas.List.{map-append, get_or_append_left}
use Rattle.std.specs.declared.cmp.Ordering.{Ordering}
use Rattle.std.specs.declared.cmp.Ordering.TheVariants.{Less, Equal, Greater}
use Rattle.std.specs.Ordering.{ordering_then, nat_cmp}
use Rattle.std.specs.Cmp.{nat_cmp_total, tied_itself}
use Rattle.leveldb_base.specs.History.{Item, Entry, placed, AreUpTo, greatest}
use Rattle.leveldb_base.proofs.HistoryLemmas.{in_none, in_cases, in_front, in_rest}
use Rattle.leveldb_base.specs.Cmp.{IsPreorderOn}
use Rattle.leveldb_base.specs.CmpLaws.{itself_equal}
use Rattle.leveldb_base.specs.KeyTypes.{memtable_cmp}
use Rattle.leveldb_base.specs.Types.{Pair}
use Rattle.leveldb_base.specs.declared.error.Status.{Status}
use Rattle.leveldb_base.specs.declared.error.StatusCode.TheVariants.{AlreadyExists}
use Rattle.leveldb_mem.specs.WriteBatch.{item_of}
use Rattle.leveldb_mem.specs.MemTable.{KeepsRoom, AddResult, PutResult, PrepareResult, FailsToPrepare, bytes_in, value_length, IsUnion, AreNewTo, entry_of, IsNewTo, entry_key, entry_from, entries_of_keys, IsEntryPair, Kept, HasRoom, AddsEntry, AddsAll, Grows, GrowsByAll}
use Rattle.leveldb_mem.specs.Searching.{key_at}
use Rattle.leveldb_mem.specs.SkipMap.{InsertsPair, HasKey}
use Rattle.leveldb_mem.proofs.MemTableLemmas.{entry_again, entry_order, entry_place, entry_there}

-- ---- sets of entries up to a number, and batches after them: what a caller that knows how far its numbers go owes an insertion

-- a placed batch's entries have its first number or one after it
pub placed_from : (first : ℕ) (items : List Item) (entry : Entry) → Contains (placed first items) entry → first ≤ entry.sequence
placed_from first [] entry there = absurd (in_none entry there)
placed_from first (item ∷ items) entry there =
    ⊎_elim
    (λ (e : entry_of first item.key item.value ≡ entry). let s = ap (λ (x : Entry). x.sequence) e in omega (arith, s))
    (λ (rest : Contains (placed (first + 1) items) entry). let low = placed_from (first + 1) items entry rest in omega (arith, low))
    (in_cases _ entry (placed (first + 1) items) there)

-- no entries are up to every number, and a set that gains one up to a number stays so
pub none_up_to : (n : ℕ) (entries : List Entry) → entries ≡ [] → AreUpTo n entries
none_up_to n entries none entry there = absurd (in_none entry (subst (λ (es : List Entry). Contains es entry) none there))

pub one_up_to : (n : ℕ) (old new : List Entry) (one : Entry) → AreUpTo n old → IsUnion old (one ∷ []) new → one.sequence ≤ n → AreUpTo n new
one_up_to n old new one low gains le entry there =
    ⊎_elim
    (λ (was : Contains old entry). low entry was)
    (λ (e : one ≡ entry). let s = ap (λ (x : Entry). x.sequence) e in omega (arith, s))
    (Contains-push_cases old one entry ((gains entry).0 there))

-- a batch after them is new
pub new_after : (n : ℕ) (entries : List Entry) (first : ℕ) (items : List Item) → AreUpTo n entries → n < first → AreNewTo entries (placed first items)
new_after n entries first items low above entry there other was key number =
    let a = low other was in let b = placed_from first items entry there in omega (arith, a, b, number)

-- ---- what comes of a memtable key that comes to a map, or finds its entry there

-- an element in the middle, as one at the end
moved : (xs ys : List Entry) (e x : Entry) → Contains (xs ++ e ∷ ys) x ↔ Contains (xs ++ ys ++ e ∷ []) x
moved xs ys e x = (
  λ h. ⊎_elim
      (λ (l : Contains xs x). Contains-append_left (xs ++ ys) (e ∷ []) x (Contains-append_left xs ys x l))
      (λ (r : Contains (e ∷ ys) x).
      ⊎_elim
      (λ (same : e ≡ x). Contains-append_right (xs ++ ys) (e ∷ []) x (subst (λ (z : Entry). Contains (e ∷ []) z) same (in_front e [])))
      (λ (q : Contains ys x). Contains-append_left (xs ++ ys) (e ∷ []) x (Contains-append_right xs ys x q)) (in_cases e x ys r))
      (Contains-append_cases xs (e ∷ ys) x h),
  λ h. ⊎_elim
      (λ (l : Contains (xs ++ ys) x).
      ⊎_elim
      (λ (p : Contains xs x). Contains-append_left xs (e ∷ ys) x p)
      (λ (q : Contains ys x). Contains-append_right xs (e ∷ ys) x (in_rest e x ys q)) (Contains-append_cases xs ys x l))
      (λ (r : Contains (e ∷ []) x).
      ⊎_elim
      (λ (same : e ≡ x). Contains-append_right xs (e ∷ ys) x (subst (λ (z : Entry). Contains (e ∷ ys) z) same (in_front e ys)))
      (λ (none : Contains [] x). Contains-append_left xs (e ∷ ys) x (absurd (omega (arith, none.1)))) (in_cases e x [] r))
      (Contains-append_cases (xs ++ ys) (e ∷ []) x h),
)

module _ {old new : List Pair} {key : List ℕ} (put : InsertsPair old (key, []) new) (entry : Entry) where
  abbrev from_pair : Pair → Entry
  from_pair pair = entry_from pair.0

  -- its entry has come to the others
  pub gains_entry : entry_from key ≡ entry → IsUnion (entries_of_keys old) (entry ∷ []) (entries_of_keys new)
  gains_entry e x =
      let was : entries_of_keys old ≡ entries_of_keys put.front ++ entries_of_keys put.back = ap entries_of_keys put.before ∙ map-append from_pair put.front put.back in
      let is : entries_of_keys new ≡ entries_of_keys put.front ++ entry ∷ entries_of_keys put.back =
      ap entries_of_keys put.after ∙ map-append from_pair put.front ((key, []) ∷ put.back) ∙ ap (λ (z : Entry). entries_of_keys put.front ++ z ∷ entries_of_keys put.back) e in
      let both = moved (entries_of_keys put.front) (entries_of_keys put.back) entry x in (
        λ h. subst (λ (es : List Entry). Contains (es ++ entry ∷ []) x) (sym was) (both.0 (subst (λ (es : List Entry). Contains es x) is h)),
        λ h. subst (λ (es : List Entry). Contains es x) (sym is) (both.1 (subst (λ (es : List Entry). Contains (es ++ entry ∷ []) x) was h)),
      )

  -- and all pairs still are memtable keys of entries
  pub still_entries : key ≡ entry_key entry → entry.sequence < 2 ^ 56 → All IsEntryPair old → All IsEntryPair new
  still_entries e h each =
      let both : All IsEntryPair (put.front ++ put.back) = subst (λ (ps : List Pair). All IsEntryPair ps) put.before each in
      let again : entry_from key ≡ entry = ap entry_from e ∙ entry_again entry h in
      let this : IsEntryPair (key, []) = (e ∙ ap entry_key (sym again), refl) in
      subst (λ (ps : List Pair). All IsEntryPair ps) (sym put.after)
      (All-append IsEntryPair put.front ((key, []) ∷ put.back) (front_of put.front put.back both) (All-cons IsEntryPair (key, []) put.back this (back_of put.front put.back both)))
    where
      front_of : (front back : List Pair) → All IsEntryPair (front ++ back) → All IsEntryPair front
      front_of front back all i d h = subst IsEntryPair (get_or_append_left front back d i h) (all i d (omega (arith, h, length-append front back)))

      back_of : (front back : List Pair) → All IsEntryPair (front ++ back) → All IsEntryPair back
      back_of [] back all = all
      back_of (pair ∷ front) back all = back_of front back (All-tail IsEntryPair pair (front ++ back) all)

module _ {accepts : List ℕ → Bool} {cmp : List ℕ → List ℕ → Ordering} (o : IsPreorderOn accepts cmp) (all : (key : List ℕ) → accepts key ≡ true)
    (exact : (a b : List ℕ) → cmp a b ≡ Equal → a ≡ b) (pairs : List Pair) (key : List ℕ) (entry : Entry) (is : entry_from key ≡ entry) where
  both_equal : (r s : Ordering) → ordering_then r s ≡ Equal → (r ≡ Equal) × (s ≡ Equal)
  both_equal Less s e = let f : ⊥ = cc in absurd f
  both_equal Equal s e = (refl, e)
  both_equal Greater s e = let f : ⊥ = cc in absurd f

  -- where an Equal memtable key is there, its entry isn't new
  pub not_new : HasKey (memtable_cmp cmp) pairs key → IsNewTo (entries_of_keys pairs) entry.sequence entry.key → ⊥
  not_new has new =
      let found = at_from_Contains pairs has.0 has.1 in
      let there : key_at pairs found.0 ≡ (has.0).0 = ap (λ (p : Pair). p.0) (found.2 ([], [])) in
      let other = entry_from (key_at pairs found.0) in
      let mine = entry_from key in
      let equal : memtable_cmp cmp (key_at pairs found.0) key ≡ Equal = ap (λ k. memtable_cmp cmp k key) there ∙ has.2 in
      let parts = both_equal (cmp other.key mine.key) (nat_cmp mine.sequence other.sequence) (sym (entry_order cmp (key_at pairs found.0) key) ∙ equal) in
      let user : other.key ≡ entry.key = exact other.key mine.key parts.0 ∙ ap (λ (e : Entry). e.key) is in
      let number : mine.sequence ≡ other.sequence = ranked mine.sequence other.sequence Equal (sym parts.1) in
      new other (entry_there pairs found.0 found.1) user (sym number ∙ ap (λ (e : Entry). e.sequence) is)

  -- where none is, it is new
  pub is_new : (HasKey (memtable_cmp cmp) pairs key → ⊥) → IsNewTo (entries_of_keys pairs) entry.sequence entry.key
  is_new absent other there user number =
      let found = entry_place pairs other there in
      let mine = entry_from key in
      let his = entry_from (key_at pairs found.0) in
      let same_user : his.key ≡ mine.key = ap (λ (e : Entry). e.key) found.2 ∙ user ∙ ap (λ (e : Entry). e.key) (sym is) in
      let same_number : mine.sequence ≡ his.sequence = ap (λ (e : Entry). e.sequence) is ∙ sym number ∙ ap (λ (e : Entry). e.sequence) (sym found.2) in
      let tied : cmp his.key mine.key ≡ Equal = ap (λ k. cmp k mine.key) same_user ∙ itself_equal o mine.key (all mine.key) in
      let numbers : nat_cmp mine.sequence his.sequence ≡ Equal = ap (λ n. nat_cmp n his.sequence) same_number ∙ tied_itself nat_cmp_total his.sequence in
      let equal : memtable_cmp cmp (key_at pairs found.0) key ≡ Equal =
      entry_order cmp (key_at pairs found.0) key ∙ ap (λ r. ordering_then r (nat_cmp mine.sequence his.sequence)) tied ∙ numbers in
      absent (get_or pairs found.0 ([], []), Contains-get_or pairs found.0 ([], []) found.1, equal)

-- ---- an entry is added

module _ {old mid new : Kept} {entry : Entry} where
  pub added : {put : Bool} → put ≡ true → mid.entries ≡ old.entries → PutResult mid entry put new → AddResult old entry (Ok tt) new
  added is same puts = record {
    absent = subst (λ (es : List Entry). IsNewTo es entry.sequence entry.key) same (OnTrue_at is puts.absent);
    ok = subst (λ (es : List Entry). IsUnion es (entry ∷ []) new.entries) same (OnTrue_at is puts.adds).gains;
    grows = subst (λ (es : List Entry). Grows es entry new.entries) same (OnTrue_at is puts.grows);
    err = tt;
    room = tt;
    cause = tt;
  }

  -- an entry of its key and sequence was there
  pub not_added : {put : Bool} → put ≡ false → mid.entries ≡ old.entries → KeepsRoom old mid → PutResult mid entry put new → (r : Result (Unit {0}) Status)
      → IsErrAnd r (λ status. status.code ≡ AlreadyExists) → AddResult old entry r new
  not_added is same keeps puts (Ok x) code = absurd code
  not_added is same keeps puts (Err status) code = record {
    absent = tt;
    ok = tt;
    grows = tt;
    err = OnFalse_at is puts.entries ∙ same;
    room = λ items has.
        let room = keeps items has in
        record { places = omega (arith, room.places, OnFalse_at is puts.places); bytes = omega (arith, room.bytes, OnFalse_at is puts.bytes) };
    cause = inl (code, subst (λ (es : List Entry). IsNewTo es entry.sequence entry.key → ⊥) same (OnFalse_at is puts.present));
  }

-- no memory was taken for it
pub not_prepared : {old mid : Kept} {entry : Entry} (status : Status) → PrepareResult old (item_of entry.key entry.value ∷ []) (Err status) mid → KeepsRoom old mid → AddResult old entry (Err status) mid
not_prepared {old} {mid} {entry} status prepared keeps =
    let one : bytes_in (item_of entry.key entry.value ∷ []) ≡ length entry.key + value_length entry.value = omega arith in
    record {
      absent = tt;
      ok = tt;
      grows = tt;
      err = prepared.entries;
      room = keeps;
      cause = inr (subst (λ n. FailsToPrepare old 1 n status) one prepared.cause);
    }

-- ---- the changes of a batch come to a memtable one after another

-- ---- sets that grow

same_gained : (entries : List Entry) → IsUnion entries [] entries
same_gained entries = λ x. (
  (λ there. Contains-append_left entries [] x there),
  (λ there. subst (λ (all : List Entry). Contains all x) (append-nil entries) there),
)

gained_before : (these those final more : List Entry) (entry : Entry) → IsUnion these (entry ∷ []) those → IsUnion those more final → IsUnion these (entry ∷ more) final
gained_before these those final more entry one others = λ x. (there x, back x)
  where
    whole : (these ++ entry ∷ []) ++ more ≡ these ++ (entry ∷ more)
    whole = append_assoc these (entry ∷ []) more

    there : (x : Entry) → Contains final x → Contains (these ++ (entry ∷ more)) x
    there x h = subst (λ (all : List Entry). Contains all x) whole
        (⊎_elim
        (λ (old : Contains those x). Contains-append_left (these ++ entry ∷ []) more x ((one x).0 old))
        (λ (new : Contains more x). Contains-append_right (these ++ entry ∷ []) more x new)
        (Contains-append_cases those more x ((others x).0 h)))

    back : (x : Entry) → Contains (these ++ (entry ∷ more)) x → Contains final x
    back x h = (others x).1
        (⊎_elim
        (λ (old : Contains (these ++ entry ∷ []) x). Contains-append_left those more x ((one x).1 old))
        (λ (new : Contains more x). Contains-append_right those more x new)
        (Contains-append_cases (these ++ entry ∷ []) more x (subst (λ (all : List Entry). Contains all x) (sym whole) h)))

grown_before : (these those final more : List Entry) (entry : Entry) → Grows these entry those → GrowsByAll those more final → GrowsByAll these (entry ∷ more) final
grown_before these those final more entry one others =
    let all = sum_by-cons (λ entry. length (entry_key entry)) entry more in
    record { count = omega (arith, one.count, others.count); memory = omega (arith, one.memory, others.memory, all) }

-- ---- numbers

least_fit : (first : ℕ) (items : List Item) → first + length items ≤ 2 ^ 56 → greatest (placed first items) < 2 ^ 56
least_fit first [] le = omega arith
least_fit first (item ∷ items) le = let rest = least_fit (first + 1) items (omega arith) in omega (arith, rest)

last_of : (first : ℕ) (item : Item) (items : List Item) → first + length items ≤ greatest (placed first (item ∷ items))
last_of first item [] = omega arith
last_of first item (next ∷ items) = let rest = last_of (first + 1) next items in omega (arith, rest)

-- so many numbers are left
pub all_fit : (first : ℕ) (items : List Item) → length items ≤ 2 ^ 56 - first → greatest (placed first items) < 2 ^ 56
all_fit first [] le = omega arith
all_fit first (item ∷ items) le = least_fit first (item ∷ items) (omega arith)

-- too few are left
pub none_fit : (first : ℕ) (items : List Item) → 2 ^ 56 - first < length items → 2 ^ 56 ≤ greatest (placed first items)
none_fit first [] lt = absurd (omega arith)
none_fit first (item ∷ items) lt = let last = last_of first item items in omega (arith, last)

-- ---- on the way

-- some changes have come, and these items are to come from this number on
pub record Inserting (old : Kept) (all : List Entry) (kept : Kept) (sequence : ℕ) (rest : List Item) : Type 0 where
  pub room : HasRoom kept rest
  pub fit : greatest (placed sequence rest) < 2 ^ 56
  pub new : AreNewTo kept.entries (placed sequence rest)
  pub gains : (final : List Entry) → IsUnion kept.entries (placed sequence rest) final → IsUnion old.entries all final
  pub grows : (final : List Entry) → GrowsByAll kept.entries (placed sequence rest) final → GrowsByAll old.entries all final
  pub taken : kept.places + length all ≡ old.places + length rest

length-placed : (first : ℕ) (items : List Item) → length (placed first items) ≡ length items
length-placed first [] = refl
length-placed first (item ∷ items) = ap (λ n. suc n) (length-placed (first + 1) items)

pub inserting_from : (kept : Kept) (first : ℕ) (items rest : List Item) → rest ≡ items → HasRoom kept items → greatest (placed first items) < 2 ^ 56
    → AreNewTo kept.entries (placed first items) → Inserting kept (placed first items) kept first rest
inserting_from kept first items rest all room fit new =
    subst (λ (z : List Item). Inserting kept (placed first items) kept first z) (sym all)
    (record {
      room = room;
      fit = fit;
      new = new;
      gains = λ final gains. gains;
      grows = λ final grows. grows;
      taken = omega (arith, length-placed first items);
    })

-- no item is left
pub inserted_all : (old : Kept) (all : List Entry) (kept : Kept) (sequence : ℕ) (rest : List Item) → rest ≡ [] → Inserting old all kept sequence rest → AddsAll old all kept
inserted_all old all kept sequence rest none inserting =
    let last : Inserting old all kept sequence [] = subst (λ (items : List Item). Inserting old all kept sequence items) none inserting in
    record {
      gains = last.gains kept.entries (same_gained kept.entries);
      grows = last.grows kept.entries (record { count = omega arith; memory = omega arith });
      places = omega (arith, last.taken);
    }

module _ (old : Kept) (all : List Entry) (kept : Kept) (sequence : ℕ) (rest : List Item) (item : Item) (others : List Item) (next : rest ≡ item ∷ others) (whole : Inserting old all kept sequence rest) where
  inserting : Inserting old all kept sequence (item ∷ others)
  inserting = subst (λ (items : List Item). Inserting old all kept sequence items) next whole

  pub next_fits : sequence < 2 ^ 56
  next_fits = let all_fit = inserting.fit in omega (arith, all_fit)

  pub next_room : HasRoom kept (item ∷ [])
  next_room = record { places = omega (arith, inserting.room.places); bytes = omega (arith, inserting.room.bytes) }

  pub next_new : IsNewTo kept.entries sequence item.key
  next_new = inserting.new (entry_of sequence item.key item.value) (in_front _ (placed (sequence + 1) others))

  module _ (after : Kept) (adds : AddsEntry kept (entry_of sequence item.key item.value) after) (one : Grows kept.entries (entry_of sequence item.key item.value) after.entries) where
    still_new : AreNewTo after.entries (placed (sequence + 1) others)
    still_new entry there other was key number =
        ⊎_elim
        (λ (before : Contains kept.entries other). inserting.new entry (in_rest _ entry (placed (sequence + 1) others) there) other before key number)
        (λ (e : entry_of sequence item.key item.value ≡ other).
        let s = ap (λ (x : Entry). x.sequence) e in let low = placed_from (sequence + 1) others entry there in omega (arith, s, low, number))
        (Contains-push_cases kept.entries (entry_of sequence item.key item.value) other ((adds.gains other).0 was))

    -- an item has come
    pub inserting_next : Inserting old all after (sequence + 1) others
    inserting_next = record {
      room = record { places = omega (arith, inserting.room.places, adds.places); bytes = omega (arith, inserting.room.bytes, adds.bytes) };
      fit = let all_fit = inserting.fit in omega (arith, all_fit);
      new = still_new;
      gains = λ final gains. inserting.gains final (gained_before kept.entries after.entries final (placed (sequence + 1) others) (entry_of sequence item.key item.value) adds.gains gains);
      grows = λ final grows. inserting.grows final (grown_before kept.entries after.entries final (placed (sequence + 1) others) (entry_of sequence item.key item.value) one grows);
      taken = omega (arith, inserting.taken, adds.places);
    }
