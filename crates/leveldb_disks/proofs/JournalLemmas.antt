-- The files at each moment, as calls are added to a journal.
use Rattle.std.proofs.Common.{◌≡◌, inl, inr, ℕ, Bool, true, false, cond, ◌+◌, ◌*◌, ◌/◌, ◌%◌, ◌<◌, ◌≤◌, ◌&&◌, ◌==◌, nat_le, List, [], ◌∷◌, ◌++◌, Option, None, Some, filter, fold, refl, sym, ◌∙◌, ap, subst, arith, append-nil, length, take, get_or}
use Rattle.std.specs.List.{find}
use Rattle.std.specs.Option.{option_or}
use Rattle.std.proofs.lemmas.Bool.Decides.{nat_tests}
use Rattle.std.proofs.lemmas.List.Elements.{filter-append, filter_more}
use Rattle.std.proofs.lemmas.List.Folds.{find-append}
use Rattle.std.proofs.lemmas.List.Sums.{fold_push}
use Rattle.leveldb_disks.specs.declared.mem_env.journal.Call.{Call}
use Rattle.leveldb_env.specs.Env.{Files, Disk, Observed, Within}
use Rattle.leveldb_disks.specs.Journal.{after, files_after_calls, cut_off, cut_off_if, files_inside, where_done, call_after, side_of, files_at, FilesWere, are_within}

-- ---- the numbers of the calls

more_within : (x n k : ℕ) (b b2 : Bool) → (nat_le x n && b) ≡ true → n ≤ k → (b ≡ true → b2 ≡ true) → (nat_le x k && b2) ≡ true
more_within x n k b b2 within le rest = grind (arith, nat_tests)

first_within : (x n k : ℕ) (b : Bool) → (nat_le x n && b) ≡ true → n ≤ k → nat_le x k ≡ true
first_within x n k b within le = grind (arith, nat_tests)

rest_within : (x n : ℕ) (b : Bool) → (nat_le x n && b) ≡ true → b ≡ true
rest_within x n b within = grind (arith, nat_tests)

not_next : (x n : ℕ) (b : Bool) → (nat_le x n && b) ≡ true → (x == n + 1) ≡ false
not_next x n b within = grind (arith, nat_tests)

pub within_more : (n k : ℕ) (calls : List Call) → are_within n calls ≡ true → n ≤ k → are_within k calls ≡ true
within_more n k [] within le = refl
within_more n k (call ∷ calls) within le = more_within call.number n k _ _ within le (λ rest. within_more n k calls rest le)

pub within_push : (n : ℕ) (calls : List Call) (call : Call) → are_within n calls ≡ true → call.number ≡ n + 1 → are_within (n + 1) (calls ++ call ∷ []) ≡ true
within_push n [] call within is = grind (arith, nat_tests)
within_push n (first ∷ calls) call within is = more_within first.number n (n + 1) _ _ within (omega arith) (λ rest. within_push n calls call rest is)

-- ---- what the calls made and asked for

all_made : (n k : ℕ) (calls : List Call) → are_within n calls ≡ true → n ≤ k → filter (λ call. nat_le call.number k) calls ≡ calls
all_made n k [] within le = refl
all_made n k (call ∷ calls) within le =
    ap (λ b. cond b (call ∷ filter (λ call. nat_le call.number k) calls) (filter (λ call. nat_le call.number k) calls)) (first_within call.number n k _ within le)
    ∙ ap (λ (rest : List Call). call ∷ rest) (all_made n k calls (rest_within call.number n _ within) le)

none_next : (n : ℕ) (calls : List Call) → are_within n calls ≡ true → find (λ call. call.number == n + 1) calls ≡ None
none_next n [] within = refl
none_next n (call ∷ calls) within =
    ap (λ b. cond b (Some call) (find (λ call. call.number == n + 1) calls)) (not_next call.number n _ within)
    ∙ none_next n calls (rest_within call.number n _ within)

module _ (first : Files) (calls : List Call) (n : ℕ) (within : are_within n calls ≡ true) where
  -- a call that isn't noted
  pub after_next : files_after_calls first calls (n + 1) ≡ files_after_calls first calls n
  after_next = ap (fold after first) (all_made n (n + 1) calls within (omega arith) ∙ sym (all_made n n calls within (omega arith)))

  pub inside_next : files_inside first calls n ≡ files_after_calls first calls n
  inside_next = ap (λ o. cut_off_if o (files_after_calls first calls n)) (none_next n calls within)

  -- one that is
  module _ (call : Call) (is : call.number ≡ n + 1) where
    one_made : (k : ℕ) → k ≤ n → filter (λ call. nat_le call.number k) (calls ++ call ∷ []) ≡ filter (λ call. nat_le call.number k) calls
    one_made k le =
        let later : nat_le call.number k ≡ false = grind (arith, nat_tests) in
        filter-append (λ (call : Call). nat_le call.number k) calls (call ∷ [])
        ∙ ap (λ b. filter (λ call. nat_le call.number k) calls ++ cond b (call ∷ []) []) later
        ∙ append-nil (filter (λ call. nat_le call.number k) calls)

    pub after_push : files_after_calls first (calls ++ call ∷ []) (n + 1) ≡ after (files_after_calls first calls n) call
    after_push =
        let now : nat_le call.number (n + 1) ≡ true = grind (arith, nat_tests) in
        ap (fold after first) (filter-append (λ (call : Call). nat_le call.number (n + 1)) calls (call ∷ []) ∙ ap (λ b. filter (λ call. nat_le call.number (n + 1)) calls ++ cond b (call ∷ []) []) now)
        ∙ fold_push after first (filter (λ call. nat_le call.number (n + 1)) calls) call
        ∙ ap (λ files. after files call) after_next

    pub after_before : (k : ℕ) → k ≤ n → files_after_calls first (calls ++ call ∷ []) k ≡ files_after_calls first calls k
    after_before k le = ap (fold after first) (one_made k le)

    pub inside_push : files_inside first (calls ++ call ∷ []) n ≡ cut_off call.change (files_after_calls first calls n)
    inside_push =
        let now : (call.number == n + 1) ≡ true = grind (arith, nat_tests) in
        ap (λ o. cut_off_if o (files_after_calls first (calls ++ call ∷ []) n))
        (find-append (λ (call : Call). call.number == n + 1) calls (call ∷ []) ∙ ap (λ o. option_or o (find (λ call. call.number == n + 1) (call ∷ []))) (none_next n calls within) ∙ ap (λ b. cond b (Some call) None) now)
        ∙ ap (cut_off call.change) (after_before n (omega arith))

    pub inside_before : (k : ℕ) → k < n → files_inside first (calls ++ call ∷ []) k ≡ files_inside first calls k
    inside_before k lt =
        let later : (call.number == k + 1) ≡ false = grind (arith, nat_tests) in
        ap (λ o. cut_off_if o (files_after_calls first (calls ++ call ∷ []) k))
        (find-append (λ (call : Call). call.number == k + 1) calls (call ∷ []) ∙ ap (λ b. option_or (find (λ call. call.number == k + 1) calls) (cond b (Some call) None)) later ∙ none_after (find (λ call. call.number == k + 1) calls))
        ∙ ap (cut_off_if (find (λ call. call.number == k + 1) calls)) (after_before k (omega arith))
      where
        none_after : (o : Option Call) → option_or o None ≡ o
        none_after None = refl
        none_after (Some call) = refl

-- ---- the moments

-- what is observed after n calls
abbrev pub observed_after : Files → List Call → ℕ → Disk → Observed
observed_after first calls n disk = record { disk = disk; moment = 2 * n; at_moment = FilesWere first calls }

-- of the moments before the n-th call's end the new calls say what the old ones did
pub record TellsMore (first : Files) (old new : List Call) (n : ℕ) : Type 0 where
  pub after : (k : ℕ) → k ≤ n → files_after_calls first new k ≡ files_after_calls first old k
  pub inside : (k : ℕ) → k < n → files_inside first new k ≡ files_inside first old k

module _ {first : Files} {old new : List Call} {n : ℕ} (more : TellsMore first old new n) where
  stood_before : (m : ℕ) (files : Files) → m < 2 * n → FilesWere first new m files → FilesWere first old m files
  stood_before m files earlier (inl is) = inl (is ∙ more.after (m / 2) (omega arith))
  stood_before m files earlier (inr inside) = inr (inside.0, inside.1 ∙ more.inside (m / 2) (omega arith))

  stood_kept : (m : ℕ) (files : Files) → m ≤ 2 * n → FilesWere first old m files → FilesWere first new m files
  stood_kept m files earlier (inl is) = inl (is ∙ sym (more.after (m / 2) (omega arith)))
  stood_kept m files earlier (inr inside) = let odd : m % 2 ≡ 1 = inside.0 in inr (odd, inside.1 ∙ sym (more.inside (m / 2) (omega arith)))

  stood_meanwhile : (P : Files → Type 0) (m : ℕ) (files : Files) → m / 2 ≡ n → P (files_after_calls first old n) → P (files_inside first new n) → FilesWere first new m files → P files
  stood_meanwhile P m files half before inside (inl is) = subst P (sym (is ∙ ap (files_after_calls first new) half ∙ more.after n (omega arith))) before
  stood_meanwhile P m files half before inside (inr found) = subst P (sym (found.1 ∙ ap (files_inside first new) half)) inside

  -- the files have P before the next call and inside it
  pub passes : (P : Files → Type 0) → P (files_after_calls first old n) → P (files_inside first new n) → (was now : Disk) → Within P (observed_after first old n was) (observed_after first new (n + 1) now)
  passes P before inside was now = record {
    later = omega arith;
    before = λ m files earlier stood. stood_before m files earlier stood;
    meanwhile = λ m files from to stood. stood_meanwhile P m files (omega arith) before inside stood;
    kept = λ m files earlier stood. stood_kept m files earlier stood;
  }

pub nothing_more : (first : Files) (calls : List Call) (n : ℕ) → TellsMore first calls calls n
nothing_more first calls n = record { after = λ k le. refl; inside = λ k lt. refl }

pub one_more : (first : Files) (calls : List Call) (n : ℕ) (within : are_within n calls ≡ true) (call : Call) → call.number ≡ n + 1 → TellsMore first calls (calls ++ call ∷ []) n
one_more first calls n within call is = record {
  after = λ k le. after_before first calls n within call is k le;
  inside = λ k lt. inside_before first calls n within call is k lt;
}

-- ---- a journal of n calls, and the next

module _ (first files : Files) (calls : List Call) (n : ℕ) (within : are_within n calls ≡ true) (replayed : files ≡ files_after_calls first calls n) where
  -- one that isn't noted
  module _ (new : List Call) (same : new ≡ calls) where
    pub skipped_within : are_within (n + 1) new ≡ true
    skipped_within = ap (are_within (n + 1)) same ∙ within_more n (n + 1) calls within (omega arith)

    pub skipped_replayed : (now : Files) → now ≡ files → now ≡ files_after_calls first new (n + 1)
    skipped_replayed now stay = stay ∙ replayed ∙ sym (after_next first calls n within) ∙ ap (λ (all : List Call). files_after_calls first all (n + 1)) (sym same)

    pub skipped_passes : (P : Files → Type 0) → P files → (was now : Disk) → Within P (observed_after first calls n was) (observed_after first new (n + 1) now)
    skipped_passes P stays was now =
        let before : P (files_after_calls first calls n) = subst P replayed stays in
        let inside : P (files_inside first calls n) = subst P (sym (inside_next first calls n within)) before in
        subst (λ (all : List Call). Within P (observed_after first calls n was) (observed_after first all (n + 1) now)) (sym same) (passes (nothing_more first calls n) P before inside was now)

  -- one that is
  module _ (call : Call) (is : call.number ≡ n + 1) (new : List Call) (pushed : new ≡ calls ++ call ∷ []) where
    pub noted_within : are_within (n + 1) new ≡ true
    noted_within = ap (are_within (n + 1)) pushed ∙ within_push n calls call within is

    pub noted_replayed : (now : Files) → now ≡ after files call → now ≡ files_after_calls first new (n + 1)
    noted_replayed now made = made ∙ ap (λ files. after files call) replayed ∙ sym (after_push first calls n within call is) ∙ ap (λ (all : List Call). files_after_calls first all (n + 1)) (sym pushed)

    noted_cut : files_inside first new n ≡ cut_off call.change files
    noted_cut = ap (λ (all : List Call). files_inside first all n) pushed ∙ inside_push first calls n within call is ∙ ap (cut_off call.change) (sym replayed)

    pub noted_passes : (P : Files → Type 0) → P files → P (cut_off call.change files) → (was now : Disk) → Within P (observed_after first calls n was) (observed_after first new (n + 1) now)
    noted_passes P stays makes was now =
        let before : P (files_after_calls first calls n) = subst P replayed stays in
        let inside : P (files_inside first (calls ++ call ∷ []) n) = subst P (sym noted_cut ∙ ap (λ (all : List Call). files_inside first all n) pushed) makes in
        subst (λ (all : List Call). Within P (observed_after first calls n was) (observed_after first all (n + 1) now)) (sym pushed) (passes (one_more first calls n within call is) P before inside was now)

    pub noted_inside : FilesWere first new (2 * n + 1) (cut_off call.change files)
    noted_inside = let half : (2 * n + 1) / 2 ≡ n = omega arith in inr (omega arith, sym noted_cut ∙ ap (files_inside first new) (sym half))

-- ---- the calls once more

pub after_more : (first : Files) (calls : List Call) (n i : ℕ) (call : Call) → i < length calls → call ≡ get_or calls i call
    → where_done (nat_le call.number n) (λ files. after files call) (files_after_calls first (take i calls) n) ≡ files_after_calls first (take (i + 1) calls) n
after_more first calls n i call below is =
    by (nat_le call.number n)
    ∙ ap (λ (c : Call). fold after first (filter among (take i calls) ++ cond (among c) (c ∷ []) [])) is
    ∙ ap (fold after first) (sym (filter_more among calls i call below))
  where
    among : Call → Bool
    among call = nat_le call.number n

    by : (b : Bool) → where_done b (λ files. after files call) (fold after first (filter among (take i calls))) ≡ fold after first (filter among (take i calls) ++ cond b (call ∷ []) [])
    by true = sym (fold_push after first (filter among (take i calls)) call)
    by false = ap (fold after first) (sym (append-nil (filter among (take i calls))))

-- ---- one side of a moment

pub odd_from_test : (moment : ℕ) → (moment % 2 ≡ 0 → ⊥) → (moment % 2 == 1) ≡ true
odd_from_test moment odd = let is : moment % 2 ≡ 1 = omega arith in grind (arith, nat_tests)

pub files_at_odd : (first : Files) (calls : List Call) (moment : ℕ) (side : Bool) (o : Option Call) → (moment % 2 == 1) ≡ true → o ≡ call_after calls (moment / 2) → side_of side o (files_after_calls first calls (moment / 2)) ≡ files_at first calls moment side
files_at_odd first calls moment side o odd is =
    ap (λ (o : Option Call). side_of side o (files_after_calls first calls (moment / 2))) is
    ∙ ap (λ b. where_done b (side_of side (call_after calls (moment / 2))) (files_after_calls first calls (moment / 2))) (sym odd)

pub files_at_even : (first : Files) (calls : List Call) (moment : ℕ) (side : Bool) → moment % 2 ≡ 0 → files_after_calls first calls (moment / 2) ≡ files_at first calls moment side
files_at_even first calls moment side even =
    let test : (moment % 2 == 1) ≡ false = grind (arith, nat_tests) in
    ap (λ b. where_done b (side_of side (call_after calls (moment / 2))) (files_after_calls first calls (moment / 2))) (sym test)

pub done_both : (a b : Bool) (change : Files → Files) (files : Files) → where_done (a && b) change files ≡ where_done a (where_done b change) files
done_both true b change files = refl
done_both false b change files = refl
