-- Logs in rising order, the last of which changes or is new; and batches in order.
use Rattle.leveldb_base.proofs.HistoryLemmas.{in_cases, in_front, in_none, in_rest}
use Rattle.leveldb_base.specs.History.{AreAbove, greatest}
use Rattle.leveldb_mem.specs.WriteBatch.{Batch}
use Rattle.leveldb_files.proofs.Histories.NumbersLemmas.{greatest_append, placed_above}
use Rattle.leveldb_files.specs.Stores.Batches.{AreInOrder, all_entries, batch_entries}
use Rattle.leveldb_files.specs.Stores.Store.{LogsRise, ReplayedLog, log_entries}
use Rattle.std.proofs.Common.{◌++◌, ◌<◌, ◌∙◌, ◌∷◌, ◌≡◌, ◌≤◌, ◌⊎◌, List, [], ap, append-nil, arith, inl, inr, refl, subst, ℕ, ⊎_elim}
use Rattle.std.proofs.lemmas.Bool.{cases_lt}
use Rattle.std.proofs.lemmas.List.Concat.{flat_map-append}
use Rattle.std.proofs.lemmas.List.Elements.{Contains-append_cases, Contains-append_left, Contains-append_right, Contains-push_cases}
use Rattle.std.specs.Prelude.{Contains, flat_map, max}

-- ---- batches

pub all_append : (these those : List Batch)
    → all_entries (these ++ those) ≡ all_entries these ++ all_entries those
all_append these those = flat_map-append batch_entries these those

pub order_low : (low high : ℕ) (batches : List Batch) → low ≤ high → AreInOrder high batches
    → AreInOrder low batches
order_low low high [] le order = tt
order_low low high (batch ∷ batches) le order = (
  omega (arith, le, order.0),
  order.1,
  order.2,
  order_low (max low (greatest (batch_entries batch)))
      (max high (greatest (batch_entries batch))) batches (omega (arith, le)) order.3,
)

-- batches in order after others
pub order_append : (low high : ℕ) (batches more : List Batch) → low ≤ high
    → greatest (all_entries batches) ≤ high → AreInOrder low batches → AreInOrder high more
    → AreInOrder low (batches ++ more)
order_append low high [] more le all order after = order_low low high more le after
order_append low high (batch ∷ batches) more le all order after =
    let g = greatest_append (batch_entries batch) (all_entries batches) in (
      order.0,
      order.1,
      order.2,
      order_append (max low (greatest (batch_entries batch))) high batches more
          (omega (arith, le, all, g)) (omega (arith, all, g)) order.3 after,
    )

-- their entries are above the number
pub order_above : (low : ℕ) (batches : List Batch) → AreInOrder low batches
    → AreAbove low (all_entries batches)
order_above low [] order entry c = absurd (in_none entry c)
order_above low (batch ∷ batches) order entry c = ⊎_elim
    (λ (here : Contains (batch_entries batch) entry). placed_above batch.first batch.items low
    order.0 entry here)
    (λ (there : Contains (all_entries batches) entry). let up =
    order_above (max low (greatest (batch_entries batch))) batches order.3 entry there in
    omega (arith, up))
    (Contains-append_cases (batch_entries batch) (all_entries batches) entry c)

-- ---- logs

abbrev pub log_batches : List ReplayedLog → List Batch
log_batches logs = flat_map (λ log. log.batches) logs

pub batches_last : (earlier : List ReplayedLog) (log : ReplayedLog)
    → log_batches (earlier ++ log ∷ []) ≡ log_batches earlier ++ log.batches
batches_last earlier log = flat_map-append (λ (l : ReplayedLog). l.batches) earlier (log ∷ [])
    ∙ ap (λ bs. log_batches earlier ++ bs) (append-nil log.batches)

-- ---- logs around one of them

-- a log of a list, between those before it and those after it
pub record SplitsAt (logs : List ReplayedLog) (log : ReplayedLog) : Type 0 where
  pub earlier : List ReplayedLog
  pub later : List ReplayedLog
  pub parts : logs ≡ earlier ++ log ∷ later

pub splits_at : (logs : List ReplayedLog) (log : ReplayedLog) → Contains logs log → SplitsAt logs log
splits_at [] log there = absurd (in_none log there)
splits_at (first ∷ logs) log there = ⊎_elim
    (λ (e : first ≡ log). record { earlier = []; later = logs; parts = ap (λ x. x ∷ logs) e })
    (λ (c : Contains logs log).
    let rest = splits_at logs log c in
    record {
      earlier = first ∷ rest.earlier;
      later = rest.later;
      parts = ap (λ ls. first ∷ ls) rest.parts;
    })
    (in_cases first log logs there)

-- which of the three a log is in
pub in_split : (earlier : List ReplayedLog) (log : ReplayedLog) (later : List ReplayedLog)
    (other : ReplayedLog) → Contains (earlier ++ log ∷ later) other
    → Contains earlier other ⊎ ((log ≡ other) ⊎ Contains later other)
in_split earlier log later other c = ⊎_elim
    (λ (early : Contains earlier other). inl early)
    (λ (rest : Contains (log ∷ later) other). inr (in_cases log other later rest))
    (Contains-append_cases earlier (log ∷ later) other c)

pub split_before : (earlier : List ReplayedLog) (log : ReplayedLog) (later : List ReplayedLog)
    (other : ReplayedLog) → Contains earlier other → Contains (earlier ++ log ∷ later) other
split_before earlier log later other c = Contains-append_left earlier (log ∷ later) other c

pub split_at : (earlier : List ReplayedLog) (log : ReplayedLog) (later : List ReplayedLog)
    → Contains (earlier ++ log ∷ later) log
split_at earlier log later =
    Contains-append_right earlier (log ∷ later) log (in_front log later)

pub split_after : (earlier : List ReplayedLog) (log : ReplayedLog) (later : List ReplayedLog)
    (other : ReplayedLog) → Contains later other → Contains (earlier ++ log ∷ later) other
split_after earlier log later other c =
    Contains-append_right earlier (log ∷ later) other (in_rest log other later c)

-- it is above those before it, and below those after it
pub above_before : (earlier : List ReplayedLog) (log : ReplayedLog) (later : List ReplayedLog)
    → LogsRise (earlier ++ log ∷ later) → (other : ReplayedLog) → Contains earlier other
    → other.number < log.number
above_before [] log later rising other c = absurd (in_none other c)
above_before (first ∷ earlier) log later rising other c = ⊎_elim
    (λ (e : first ≡ other). subst (λ (x : ReplayedLog). x.number < log.number) e
    (rising.0 log (split_at earlier log later)))
    (λ (rest : Contains earlier other). above_before earlier log later rising.1 other rest)
    (in_cases first other earlier c)

pub below_after : (earlier : List ReplayedLog) (log : ReplayedLog) (later : List ReplayedLog)
    → LogsRise (earlier ++ log ∷ later) → (other : ReplayedLog) → Contains later other
    → log.number < other.number
below_after [] log later rising other c = rising.0 other c
below_after (first ∷ earlier) log later rising other c =
    below_after earlier log later rising.1 other c

-- another of its number may be in its place
pub rising_at : (earlier : List ReplayedLog) (log now : ReplayedLog) (later : List ReplayedLog)
    → log.number ≡ now.number → LogsRise (earlier ++ log ∷ later)
    → LogsRise (earlier ++ now ∷ later)
rising_at [] log now later e rising =
    (λ other c. let up = rising.0 other c in omega (arith, up, e), rising.1)
rising_at (first ∷ earlier) log now later e rising = (
  λ other c. ⊎_elim
      (λ (early : Contains earlier other). rising.0 other
      (split_before earlier log later other early))
      (λ (rest : (now ≡ other) ⊎ Contains later other). ⊎_elim
      (λ (is : now ≡ other).
      let up = rising.0 log (split_at earlier log later) in
      let number = ap (λ (x : ReplayedLog). x.number) is in
      omega (arith, up, e, number))
      (λ (late : Contains later other). rising.0 other
      (split_after earlier log later other late)) rest)
      (in_split earlier now later other c),
  rising_at earlier log now later e rising.1,
)

-- where those after it have no batches, all have its own after those before it
none_later : (later : List ReplayedLog)
    → ((other : ReplayedLog) → Contains later other → other.batches ≡ [])
    → log_batches later ≡ []
none_later [] none = refl
none_later (log ∷ later) none = ap (λ bs. bs ++ log_batches later) (none log (in_front log later))
    ∙ none_later later (λ other c. none other (in_rest log other later c))

pub batches_at : (earlier : List ReplayedLog) (log : ReplayedLog) (later : List ReplayedLog)
    → ((other : ReplayedLog) → Contains later other → other.batches ≡ [])
    → log_batches (earlier ++ log ∷ later) ≡ log_batches earlier ++ log.batches
batches_at earlier log later none =
    flat_map-append (λ (l : ReplayedLog). l.batches) earlier (log ∷ later)
    ∙ ap (λ bs. log_batches earlier ++ (log.batches ++ bs)) (none_later later none)
    ∙ ap (λ bs. log_batches earlier ++ bs) (append-nil log.batches)

-- one more may be after them
pub rising_last : (earlier : List ReplayedLog) (log : ReplayedLog) → LogsRise earlier
    → ((other : ReplayedLog) → Contains earlier other → other.number < log.number)
    → LogsRise (earlier ++ log ∷ [])
rising_last [] log rising above = (λ later c. absurd (in_none later c), tt)
rising_last (first ∷ earlier) log rising above = (
  λ later c. ⊎_elim
      (λ (rest : Contains earlier later). rising.0 later rest)
      (λ (e : log ≡ later). subst (λ (x : ReplayedLog). first.number < x.number) e
      (above first (in_front first earlier)))
      (Contains-push_cases earlier log later c),
  rising_last earlier log rising.1 (λ other c. above other (in_rest first other earlier c)),
)

-- ---- logs before a number, and from it on

pub record PartsAt (n : ℕ) (logs : List ReplayedLog) : Type 0 where
  pub front : List ReplayedLog
  pub back : List ReplayedLog
  pub parts : logs ≡ front ++ back
  pub before : (log : ReplayedLog) → Contains front log → log.number < n
  pub from : (log : ReplayedLog) → Contains back log → n ≤ log.number
  pub rising : LogsRise back

pub parts_at : (n : ℕ) (logs : List ReplayedLog) → LogsRise logs → PartsAt n logs
parts_at n [] rising =
    record {
      front = [];
      back = [];
      parts = refl;
      before = λ log c. absurd (in_none log c);
      from = λ log c. absurd (in_none log c);
      rising = tt;
    }
parts_at n (first ∷ logs) rising = ⊎_elim
    (λ (less : first.number < n).
    let rest = parts_at n logs rising.1 in
    record {
      front = first ∷ rest.front;
      back = rest.back;
      parts = ap (λ ls. first ∷ ls) rest.parts;
      before = λ log c.
          ⊎_elim (λ (e : first ≡ log). subst (λ (x : ReplayedLog). x.number < n) e less)
          (λ (later : Contains rest.front log). rest.before log later)
          (in_cases first log rest.front c);
      from = rest.from;
      rising = rest.rising;
    })
    (λ (most : n ≤ first.number). record {
      front = [];
      back = first ∷ logs;
      parts = refl;
      before = λ log c. absurd (in_none log c);
      from = λ log c.
          ⊎_elim (λ (e : first ≡ log). subst (λ (x : ReplayedLog). n ≤ x.number) e most)
          (λ (later : Contains logs log). let up = rising.0 log later in omega (arith, up, most))
          (in_cases first log logs c);
      rising = rising;
    })
    (cases_lt first.number n)

pub batches_parts : (front back : List ReplayedLog)
    → log_batches (front ++ back) ≡ log_batches front ++ log_batches back
batches_parts front back = flat_map-append (λ (l : ReplayedLog). l.batches) front back

pub entries_parts : (front back : List ReplayedLog)
    → log_entries (front ++ back) ≡ log_entries front ++ log_entries back
entries_parts front back = ap all_entries (batches_parts front back)
    ∙ all_append (log_batches front) (log_batches back)

-- batches after others in order are above these
pub order_after : (low : ℕ) (batches more : List Batch) → AreInOrder low (batches ++ more)
    → AreInOrder (max low (greatest (all_entries batches))) more
order_after low [] more order = order_low (max low 0) low more (omega arith) order
order_after low (batch ∷ batches) more order =
    let g = greatest_append (batch_entries batch) (all_entries batches) in
    order_low (max low (greatest (all_entries (batch ∷ batches))))
    (max (max low (greatest (batch_entries batch))) (greatest (all_entries batches))) more
    (omega (arith, g))
    (order_after (max low (greatest (batch_entries batch))) batches more order.3)
