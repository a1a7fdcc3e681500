-- A command that became a request is a call of the headline, and its reply says what that returned.
use Rattle.std.proofs.Common.{◌≡◌, ◌<◌, ◌⊎◌, inl, inr, arith, ℕ, zero, suc, List, [], ◌∷◌, ◌++◌, refl, sym, ◌∙◌, ap, subst, Contains, Option, Some, None}
use Rattle.std.specs.Prelude.{map, slice_get, unwrap_or, Result}
use Rattle.std.specs.Option.{option_map}
use Rattle.std.proofs.lemmas.List.{length-map, map-append}
use Rattle.std.proofs.lemmas.Option.{slice_get-map}
use Rattle.leveldb_base.specs.declared.error.Status.{Status}
use Rattle.leveldb_base.specs.History as history
use Rattle.leveldb_base.proofs.EntriesLemmas.{in_map}
use Rattle.leveldb_base.proofs.HistoryLemmas.{in_front, in_rest}
use Rattle.leveldb_iter.specs.declared.moves.Move.{Move}
use Rattle.leveldb_iter.specs.declared.moves.Move.TheVariants.{First, Next, Prev, Seek}
use Rattle.leveldb_iter.specs.declared.moves.Step.{Step}
use Rattle.leveldb_iter.specs.declared.moves.Step.TheVariants.{At, Invalid, Refused}
use Rattle.rusty_leveldb.specs.declared.shell.commands.Command.{Command}
use Rattle.rusty_leveldb.specs.declared.shell.commands.Command.TheVariants as command
use Rattle.rusty_leveldb.specs.declared.shell.commands.Item.{Item}
use Rattle.rusty_leveldb.specs.declared.shell.commands.Item.TheVariants as item
use Rattle.rusty_leveldb.specs.declared.shell.commands.Reply.{Reply}
use Rattle.rusty_leveldb.specs.declared.shell.commands.Reply.TheVariants as reply
use Rattle.rusty_leveldb.specs.Engines.Serves.{refusal_of}
use Rattle.rusty_leveldb.specs.Headline as headline
use Rattle.rusty_leveldb.specs.Headline.{KeyChange, Call, CallOutcome, Why}
use Rattle.rusty_leveldb.specs.Machines.State.{Snapshot, release_snapshot, Answer, done, found, walked, snapshot, refused}
use Rattle.rusty_leveldb.specs.Machines.Shown.{changes_of, walk_move_of, IsCallOf, IsResultOf, AreResultsOf, IsOutcomeOf}
use Rattle.rusty_leveldb.specs.Programs.Shell.{IsReplyOf, change_of, given_by, request_of, snapshot_named}
use Rattle.rusty_leveldb.specs.Programs.Story.{change_for, HasNumber, IsCallFor, IsReplyFor, number_in}
use Rattle.rusty_leveldb.specs.Says.{move_for, IsRefusedWith, IsResultFor, AreResultsFor}
use Rattle.rusty_leveldb.specs.Programs.Views.{no_snapshot}
use Rattle.rusty_leveldb.specs.Walks.Walks.{move_of, landing_of}
use Rattle.rusty_leveldb.proofs.Headline.OwnLemmas.{IsOwn}

-- the numbers of snapshots
abbrev pub numbers : List Snapshot → List ℕ
numbers taken = map (λ (one : Snapshot). one.number) taken

-- ---- operands

-- the change that an item of a batch is
abbrev keyed : history.Item → KeyChange
keyed one = record { key = one.key; value = one.value }

same_change : (one : Item) → keyed (change_of one) ≡ change_for one
same_change (item.Put key value) = refl
same_change (item.Delete key) = refl

same_changes : (items : List Item) → changes_of (map change_of items) ≡ map change_for items
same_changes [] = refl
same_changes (one ∷ items) = λ i. same_change one i ∷ same_changes items i

same_move : (move : Move) → walk_move_of (move_of move) ≡ move_for move
same_move First = refl
same_move Next = refl
same_move Prev = refl
same_move (Seek key) = refl

pub same_moves : (moves : List Move) → map walk_move_of (map move_of moves) ≡ map move_for moves
same_moves [] = refl
same_moves (move ∷ moves) = λ i. same_move move i ∷ same_moves moves i

-- ---- snapshots

-- each has a number above 0
abbrev pub AreAbove : List Snapshot → Type 0
AreAbove taken = (one : Snapshot) → Contains taken one → 0 < one.number

-- so none has 0
none_is_0 : (taken : List Snapshot) → AreAbove taken → Contains (numbers taken) 0 → ⊥
none_is_0 taken above there =
    let one = in_map (λ (one : Snapshot). one.number) taken 0 there in
    let low = above one.0 one.1 in let is_0 = one.2 in omega (arith, low, is_0)

number_in_place : (taken : List Snapshot) (place : ℕ) (there : Option Snapshot)
    → slice_get taken place ≡ there
    → slice_get (numbers taken) place ≡ option_map (λ (one : Snapshot). one.number) there
number_in_place taken place there e = slice_get-map (λ (one : Snapshot). one.number) taken place
    ∙ ap (option_map (λ (one : Snapshot). one.number)) e

named_number : (taken : List Snapshot) (place : ℕ) → AreAbove taken
    → HasNumber (numbers taken) place (snapshot_named taken place).number
named_number taken place above = by (slice_get taken place) refl
  where
    by : (there : Option Snapshot) → slice_get taken place ≡ there
        → HasNumber (numbers taken) place (snapshot_named taken place).number
    by None e = inr (
      number_in_place taken place None e,
      λ c. none_is_0 taken above (subst (Contains (numbers taken))
          (ap (λ (o : Option Snapshot). (unwrap_or o no_snapshot).number) e) c),
    )
    by (Some one) e = inl (number_in_place taken place (Some one) e
        ∙ ap (λ (o : Option Snapshot). Some (unwrap_or o no_snapshot).number) (sym e))

-- what is in a place of a list is in it
got_in : {A : Type 0} (xs : List A) (k : ℕ) (x : A) → slice_get xs k ≡ Some x → Contains xs x
got_in [] k x is = absurd (let never : None ≡ Some x = is in cc)
got_in (y ∷ xs) zero x is = let same : y ≡ x = cc in
    subst (Contains (y ∷ xs)) same (in_front y xs)
got_in (y ∷ xs) (suc k) x is = in_rest y x xs (got_in xs k x is)

-- ---- a call

-- a release is told of its own number
release_for : (taken : List Snapshot) (place : ℕ) (answer : Answer) (call : Call) → AreAbove taken
    → IsCallOf (release_snapshot (snapshot_named taken place)) answer call
    → IsOwn taken (release_snapshot (snapshot_named taken place)) call
    → IsCallFor (numbers taken) (command.Release place) call
release_for taken place answer call above asked own = (
  (snapshot_named taken place).number,
  named_number taken place above,
  own (snapshot_named taken place) refl (by (slice_get taken place) refl),
)
  where
    by : (there : Option Snapshot) → slice_get taken place ≡ there
        → Contains taken (snapshot_named taken place) ⊎ ((snapshot_named taken place).number ≡ 0)
    by None e = inr (ap (λ (o : Option Snapshot). (unwrap_or o no_snapshot).number) e)
    by (Some one) e = inl (subst (Contains taken)
        (ap (λ (o : Option Snapshot). unwrap_or o no_snapshot) (sym e)) (got_in taken place one e))

pub call_for : (taken : List Snapshot) (one : Command) (answer : Answer) (call : Call)
    → AreAbove taken
    → IsCallOf (request_of taken one) answer call → IsOwn taken (request_of taken one) call
    → IsCallFor (numbers taken) one call
call_for taken (command.Put key value) answer call above asked own = asked
call_for taken (command.Delete key) answer call above asked own = asked
call_for taken (command.Write sync items) answer call above asked own =
    asked ∙ ap (λ changes. headline.write changes sync) (same_changes items.items)
call_for taken (command.Get key) answer call above asked own = asked
call_for taken command.Snap answer call above asked own = asked
call_for taken (command.GetAt place key) answer call above asked own =
    ((snapshot_named taken place).number, named_number taken place above, asked)
call_for taken (command.Release place) answer call above asked own =
    release_for taken place answer call above asked own
call_for taken (command.Walk None moves) answer call above asked own =
    asked ∙ ap (headline.walk None) (same_moves moves.items)
call_for taken (command.Walk (Some place) moves) answer call above asked own = (
  (snapshot_named taken place).number,
  named_number taken place above,
  asked ∙ ap (headline.walk (Some (snapshot_named taken place).number)) (same_moves moves.items),
)
call_for taken (command.Compact from to) answer call above asked own = asked
call_for taken command.Flush answer call above asked own = asked
call_for taken command.Close answer call above asked own = asked

-- ---- what it returned

pub refused_with : (status : Status) (outcome : CallOutcome)
    → IsOutcomeOf (refused (refusal_of status)) outcome → IsRefusedWith status outcome
refused_with status outcome (inl is) = subst (IsRefusedWith status) (sym is.0) is.1
refused_with status outcome (inr (inl is)) = subst (IsRefusedWith status) (sym is.0) is.1
refused_with status outcome (inr (inr is)) = subst (IsRefusedWith status) (sym is.1) is.2

led_to : (step : Step) (result : Result (Option headline.Pair) Why)
    → IsResultOf (landing_of step) result → IsResultFor step result
led_to (At key value) result is = is
led_to Invalid result is = is
led_to (Refused status) result is = subst (IsResultFor (Refused status)) (sym is.1) is.2

pub each_led_to : (steps : List Step) (results : List (Result (Option headline.Pair) Why))
    → AreResultsOf (map landing_of steps) results → AreResultsFor steps results
each_led_to [] [] are = refl
each_led_to [] (result ∷ results) are = absurd are
each_led_to (step ∷ steps) [] are = absurd are
each_led_to (step ∷ steps) (result ∷ results) are =
    (led_to step result are.0, each_led_to steps results are.1)

pub reply_for : (taken : List Snapshot) (said : Reply) (answer : Answer) (outcome : CallOutcome)
    → IsReplyOf taken said answer → IsOutcomeOf answer outcome
    → IsReplyFor (numbers taken) said outcome
reply_for taken reply.Done answer outcome is told =
    subst (λ a. IsOutcomeOf a outcome) is told
reply_for taken (reply.Value value) answer outcome is told =
    subst (λ a. IsOutcomeOf a outcome) is told
reply_for taken reply.Nothing answer outcome is told =
    subst (λ a. IsOutcomeOf a outcome) is told
reply_for taken (reply.Snapshot place) answer outcome is told = (
  is.0 ∙ sym (length-map taken (λ (one : Snapshot). one.number)),
  is.1.number,
  subst (λ a. IsOutcomeOf a outcome) is.2 told,
)
reply_for taken (reply.Walk steps) answer outcome is told =
    let results = subst (λ a. IsOutcomeOf a outcome) is told in
    (results.0, each_led_to steps.items results.0 results.2, results.1)
reply_for taken (reply.Refused status) answer outcome is told =
    refused_with status outcome (subst (λ a. IsOutcomeOf a outcome) is told)

-- the number that was given out
numbers_given : (answer : Answer) (outcome : CallOutcome) → IsOutcomeOf answer outcome
    → numbers (given_by answer) ≡ number_in outcome
numbers_given done outcome told = ap number_in (sym told)
numbers_given (found value) outcome told = ap number_in (sym told)
numbers_given (walked landings) outcome told = ap number_in (sym told.1)
numbers_given (snapshot one) outcome told = ap number_in (sym told)
numbers_given (refused refusal) outcome (inl is) = ap number_in (sym is.0)
numbers_given (refused refusal) outcome (inr (inl is)) = ap number_in (sym is.0)
numbers_given (refused refusal) outcome (inr (inr is)) = ap number_in (sym is.1)

pub numbers_then : (taken : List Snapshot) (answer : Answer) (outcome : CallOutcome)
    → IsOutcomeOf answer outcome
    → numbers (taken ++ given_by answer) ≡ numbers taken ++ number_in outcome
numbers_then taken answer outcome told =
    map-append (λ (one : Snapshot). one.number) taken (given_by answer)
    ∙ ap (λ given. numbers taken ++ given) (numbers_given answer outcome told)
