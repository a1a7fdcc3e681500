-- Which logs are replayed: by numbers, and as a store's logs.
use Rattle.std.specs.Prelude.{Contains, IsSome}
use Rattle.std.proofs.Common.{◌≡◌, ◌∙◌, ◌∷◌, ◌++◌, ◌<◌, ◌≤◌, inl, inr, ⊎_elim, ℕ, List, [], Option, None, Some, ap, arith, map, refl, subst, sym}
use Rattle.std.proofs.lemmas.Cmp.{ranked}
use Rattle.std.proofs.lemmas.List.Elements.{Contains-append_right}
use Rattle.std.specs.List.{AllByRecursion}
use Rattle.std.specs.declared.cmp.Ordering.TheVariants.{Less}
use Rattle.std.specs.List.Sorted.{IsStrictlySortedBy}
use Rattle.std.specs.Option.{unwrap_or}
use Rattle.std.specs.Ordering.{nat_cmp}
use Rattle.leveldb_base.proofs.HistoryLemmas.{in_cases, in_front, in_none, in_rest}
use Rattle.leveldb_env.specs.Env.{Files}
use Rattle.leveldb_mem.specs.Log.{bad}
use Rattle.leveldb_files.specs.Stores.Store.{HasLog, LogIsReplayed, LogsRise, ReplayedLog}
use Rattle.leveldb_files.specs.Edits.Edit.{Edit}
use Rattle.leveldb_files.specs.Edits.VersionSet.{FileSet}
use Rattle.leveldb_version_set.specs.Sets.VersionSetValue.{VersionSetValue}
use Rattle.leveldb_store.specs.Openings.FoundFiles.{AreFoundLogs}
use Rattle.leveldb_store.specs.Openings.OpeningSteps.{AreLogs, BadEndsEnd, IsReplayed, IsSetOfEdits}

-- ---- by the manifest's numbers

-- the numbers of a set that are asked are those that the edits leave
pub record NumbersAre (set : FileSet) (log previous : ℕ) : Type 0 where
  pub there : IsSome set.log_number
  pub log_is : unwrap_or set.log_number 0 ≡ log
  pub previous_is : unwrap_or set.previous_log 0 ≡ previous

pub some_of_number : (number : Option ℕ) (log : ℕ) → IsSome number → unwrap_or number 0 ≡ log → number ≡ Some log
some_of_number None log some is = absurd (cc)
some_of_number (Some n) log some is = ap (λ z. Some z) is

some_of_previous : (number : Option ℕ) (n : ℕ) → n ≡ unwrap_or number 0 → 0 < n → number ≡ Some n
some_of_previous None n is above = absurd (omega (arith, is, above))
some_of_previous (Some m) n is above = ap (λ z. Some z) (sym is)

module _ (set : FileSet) (log previous : ℕ) (are : NumbersAre set log previous) (n : ℕ) where
  pub replayed_log : IsReplayed log previous n → LogIsReplayed set n
  replayed_log (inl from) = inl (log, some_of_number set.log_number log are.there are.log_is, from)
  replayed_log (inr (is, above)) = inr (some_of_previous set.previous_log n (is ∙ sym are.previous_is) above, above)

  pub log_replayed : LogIsReplayed set n → IsReplayed log previous n
  log_replayed (inl (first, is, from)) =
      let same : first ≡ log = sym (ap (λ number. unwrap_or number 0) is) ∙ are.log_is in
      inl (subst (λ z. z ≤ n) same from)
  log_replayed (inr (is, above)) = inr (sym (ap (λ number. unwrap_or number 0) is) ∙ are.previous_is, above)

-- ---- in rising order

-- each is below those after it
abbrev Rise : List ℕ → Type 0
Rise [] = Unit {0}
Rise (n ∷ numbers) = ((later : ℕ) → Contains numbers later → n < later) × Rise numbers

-- numbers that rise and have each other's are the same
one_rising : (these those : List ℕ) → Rise these → Rise those → ((n : ℕ) → Contains these n → Contains those n) → ((n : ℕ) → Contains those n → Contains these n) → these ≡ those
one_rising [] [] r s to from = refl
one_rising [] (b ∷ those) r s to from = absurd (in_none b (from b (in_front b those)))
one_rising (a ∷ these) [] r s to from = absurd (in_none a (to a (in_front a these)))
one_rising (a ∷ these) (b ∷ those) r s to from = joined heads (one_rising these those r.1 s.1 to_rest from_rest)
  where
    heads : a ≡ b
    heads = ⊎_elim
        (λ (e : b ≡ a). sym e)
        (λ (there : Contains those a). ⊎_elim
        (λ (e : a ≡ b). e)
        (λ (back : Contains these b). let l = s.0 a there in let m = r.0 b back in absurd (omega (arith, l, m)))
        (in_cases a b these (from b (in_front b those))))
        (in_cases b a those (to a (in_front a these)))

    to_rest : (n : ℕ) → Contains these n → Contains those n
    to_rest n c = ⊎_elim
        (λ (e : b ≡ n). let l = r.0 n c in let same = heads ∙ e in absurd (omega (arith, l, same)))
        (λ (rest : Contains those n). rest)
        (in_cases b n those (to n (in_rest a n these c)))

    from_rest : (n : ℕ) → Contains those n → Contains these n
    from_rest n c = ⊎_elim
        (λ (e : a ≡ n). let l = s.0 n c in let same = sym heads ∙ e in absurd (omega (arith, l, same)))
        (λ (rest : Contains these n). rest)
        (in_cases a n these (from n (in_rest b n those c)))

    joined : a ≡ b → these ≡ those → a ∷ these ≡ b ∷ those
    joined e es = λ i. e i ∷ es i

-- the numbers of logs
abbrev numbers_of : List ReplayedLog → List ℕ
numbers_of logs = map (λ (log : ReplayedLog). log.number) logs

numbered : (logs : List ReplayedLog) (log : ReplayedLog) → Contains logs log → Contains (numbers_of logs) log.number
numbered [] log c = absurd (in_none log c)
numbered (first ∷ logs) log c = ⊎_elim
    (λ (e : first ≡ log). subst (λ (z : ReplayedLog). Contains (first.number ∷ numbers_of logs) z.number) e (in_front first.number (numbers_of logs)))
    (λ (rest : Contains logs log). in_rest first.number log.number (numbers_of logs) (numbered logs log rest))
    (in_cases first log logs c)

of_number : (logs : List ReplayedLog) (n : ℕ) → Contains (numbers_of logs) n → (log : ReplayedLog) × Contains logs log × (log.number ≡ n)
of_number [] n c = absurd (in_none n c)
of_number (first ∷ logs) n c = ⊎_elim
    (λ (e : first.number ≡ n). (first, in_front first logs, e))
    (λ (rest : Contains (numbers_of logs) n). let it = of_number logs n rest in (it.0, in_rest first it.0 logs it.1, it.2))
    (in_cases first.number n (numbers_of logs) c)

logs_rise : (logs : List ReplayedLog) → LogsRise logs → Rise (numbers_of logs)
logs_rise [] r = tt
logs_rise (first ∷ logs) r = (λ later c. let it = of_number logs later c in subst (λ z. first.number < z) it.2 (r.0 it.0 it.1), logs_rise logs r.1)

below_each : (n : ℕ) (numbers : List ℕ) → AllByRecursion (λ m. nat_cmp n m ≡ Less) numbers → (later : ℕ) → Contains numbers later → n < later
below_each n [] all later c = absurd (in_none later c)
below_each n (m ∷ numbers) all later c = ⊎_elim
    (λ (e : m ≡ later). subst (λ z. n < z) e (ranked n m Less (sym all.0)))
    (λ (rest : Contains numbers later). below_each n numbers all.1 later rest)
    (in_cases m later numbers c)

sorted_rise : (numbers : List ℕ) → IsStrictlySortedBy nat_cmp numbers → Rise numbers
unfolding IsStrictlySortedBy
sorted_rise [] s = tt
sorted_rise (n ∷ numbers) s = (λ later c. below_each n numbers s.0 later c, sorted_rise numbers s.1)

-- the numbers of logs that rise are these, if they have each other's
pub numbers_are : (logs : List ReplayedLog) (numbers : List ℕ) → LogsRise logs → IsStrictlySortedBy nat_cmp numbers → ((log : ReplayedLog) → Contains logs log → Contains numbers log.number)
    → ((n : ℕ) → Contains numbers n → (log : ReplayedLog) × Contains logs log × (log.number ≡ n)) → map (λ (log : ReplayedLog). log.number) logs ≡ numbers
numbers_are logs numbers rise sorted to from = one_rising (numbers_of logs) numbers (logs_rise logs rise) (sorted_rise numbers sorted)
    (λ n c. let it = of_number logs n c in subst (Contains numbers) it.2 (to it.0 it.1))
    (λ n c. let it = from n c in subst (Contains (numbers_of logs)) it.2 (numbered logs it.0 it.1))

-- ---- a bad end

-- a log after another has a greater number
later_rises : (front : List ReplayedLog) (one : ReplayedLog) (later : List ReplayedLog) → LogsRise (front ++ one ∷ later) → (other : ReplayedLog) → Contains later other → one.number < other.number
later_rises [] one later r other c = r.0 other c
later_rises (first ∷ front) one later r other c = later_rises front one later r.1 other c

-- of logs that rise a bad end ends the history, if it does of any two of them
pub bad_ends_end : (logs : List ReplayedLog) → LogsRise logs
    → ((a b : ReplayedLog) → Contains logs a → Contains logs b → a.number < b.number → a.end ≡ bad → b.size ≡ 0) → BadEndsEnd logs
bad_ends_end logs rise ends front one later are is_bad other c =
    let within : (log : ReplayedLog) → Contains (one ∷ later) log → Contains logs log
    = λ log there. subst (λ them. Contains them log) (sym are) (Contains-append_right front (one ∷ later) log there) in
    ends one other (within one (in_front one later)) (within other (in_rest one other later c)) (later_rises front one later (subst LogsRise are rise) other c) is_bad

-- so it does of any two logs, if it ends the history
two_ends : (logs : List ReplayedLog) → LogsRise logs → BadEndsEnd logs → (a b : ReplayedLog)
    → Contains logs a → Contains logs b → a.number < b.number → a.end ≡ bad → b.size ≡ 0
two_ends [] rise ends a b in_a in_b less is_bad = absurd (in_none a in_a)
two_ends (first ∷ logs) rise ends a b in_a in_b less is_bad = ⊎_elim
    (λ (e : first ≡ a). ⊎_elim
    (λ (f : first ≡ b). let same = ap (λ (log : ReplayedLog). log.number) (sym e ∙ f) in
    absurd (omega (arith, same, less)))
    (λ (later : Contains logs b).
    ends [] first logs refl (ap (λ (log : ReplayedLog). log.end) e ∙ is_bad) b later)
    (in_cases first b logs in_b))
    (λ (later : Contains logs a). ⊎_elim
    (λ (f : first ≡ b). let above = rise.0 a later in
    let same = ap (λ (log : ReplayedLog). log.number) f in absurd (omega (arith, above, same, less)))
    (λ (rest : Contains logs b). two_ends logs rise.1
    (λ front one more are. ends (first ∷ front) one more (ap (λ them. first ∷ them) are)) a b later
    rest less is_bad)
    (in_cases first b logs in_b))
    (in_cases first a logs in_a)

-- ---- the logs that are found

rise_as : (logs : List ReplayedLog) → Rise (numbers_of logs) → LogsRise logs
rise_as [] rise = tt
rise_as (first ∷ logs) rise =
    (λ later c. rise.0 later.number (numbered logs later c), rise_as logs rise.1)

-- logs of the numbers of a set are those that its edits have replayed
pub found_logs : (store : List ℕ) (files now : Files) (edits : List Edit) (set : VersionSetValue)
    (numbers : List ℕ) → IsSetOfEdits store files edits set numbers
    → ((log : ReplayedLog) → HasLog store now log → HasLog store files log)
    → (logs : List ReplayedLog) → AreLogs store now numbers logs → AreFoundLogs store files edits logs
found_logs store files now edits set numbers of were logs are = record {
  replayed = record {
    each = λ log c.
        let it = of.each log.number (subst (λ ns. Contains ns log.number) are.numbers_are
        (numbered logs log c)) in (were log (are.each log c), it.0, it.1);
    all = λ name n is replayed there.
        let it = of.all name n is replayed there in
        (it.0, of_number logs n (subst (λ ns. Contains ns n) (sym are.numbers_are) it.1));
    rising = rising;
  };
  in_order = are.in_order;
  ends = two_ends logs rising are.ends;
}
  where
    rising : LogsRise logs
    rising = rise_as logs (subst Rise (sym are.numbers_are) (sorted_rise numbers of.rising))
