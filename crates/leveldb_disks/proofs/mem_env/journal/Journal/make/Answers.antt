use Rattle.std.proofs.Common.{◌≡◌, ◌+◌, ◌*◌, ◌∙◌, ◌∷◌, ◌++◌, [], Bool, true, false, is_ok, inl, inr, refl, sym, ap, subst, rules, List}
use Rattle.leveldb_disks.specs.declared.mem_env.journal.Call.{Call}
use Rattle.leveldb_env.specs.Env.{BeforeOrAfter, Files}
use Rattle.leveldb_disks.specs.Journal.{requested, may_be_made, cut_off, where_done, FilesWere}
use Rattle.leveldb_env.specs.MemEnv.{files_of}
use Rattle.leveldb_disks.proofs.JournalLemmas.{skipped_within, skipped_replayed, skipped_passes, noted_within, noted_replayed, noted_passes, noted_inside}
use Rattle.leveldb_disks.proofs.mem_env.journal.Journal.make.Goals as goal
use Rattle.leveldb_disks.proofs.mem_env.journal.Journal.make.Goals.{After-push, In_ok-noted_change}

-- ---- no memory to note the call

pub invariant_of-self : goal.invariant_of-self
invariant_of-self c =
    let j = c.args.self.now in
    let new = c.take_memory.new.calls.items in
    record {
      few = c.requires;
      numbered = skipped_within (files_of j.first) (files_of j.files) j.calls.items j.count j.numbered j.replayed new c.take_memory.ensures.calls;
      replayed = skipped_replayed (files_of j.first) (files_of j.files) j.calls.items j.count j.numbered j.replayed new c.take_memory.ensures.calls _ refl;
    }

pub returns-in_err-noted_change-clause-time : goal.returns-in_err-noted_change-clause-time
returns-in_err-noted_change-clause-time c =
    let j = c.args.self.now in
    λ was now. skipped_passes (files_of j.first) (files_of j.files) j.calls.items j.count j.numbered j.replayed c.take_memory.new.calls.items c.take_memory.ensures.calls
    (BeforeOrAfter (requested c.args.change.now) (files_of j.files)) (inl refl) _ _

-- ---- no memory for the change

pub invariant_of-self-in-Break-branch-2 : goal.invariant_of-self-in-Break-branch-2
invariant_of-self-in-Break-branch-2 c =
    let j = c.args.self.now in
    let new = c.take_memory.new.calls.items in
    record {
      few = c.requires;
      numbered = skipped_within (files_of j.first) (files_of j.files) j.calls.items j.count j.numbered j.replayed new c.take_memory.ensures.calls;
      replayed = skipped_replayed (files_of j.first) (files_of j.files) j.calls.items j.count j.numbered j.replayed new c.take_memory.ensures.calls _ c.in_err-there.ensures.err;
    }

pub returns-in_err-there-clause-time : goal.returns-in_err-there-clause-time
returns-in_err-there-clause-time c =
    let j = c.args.self.now in
    λ was now. skipped_passes (files_of j.first) (files_of j.files) j.calls.items j.count j.numbered j.replayed c.take_memory.new.calls.items c.take_memory.ensures.calls
    (BeforeOrAfter (requested c.args.change.now) (files_of j.files)) (inl refl) _ _

-- ---- the call is noted

abbrev call_of : After-push → Call
call_of c = record { number = c.args.self.now.count + 1; change = c.in_ok-noted_change.noted_change; done = c.args.done }

pushed : (c : After-push) → c.push.new.self.items ≡ c.args.self.now.calls.items ++ call_of c ∷ []
pushed c = let ok : is_ok c.push.result ≡ true = search rules in rw ok at c.push.ensures.items ∙ ap (λ (calls : List Call). calls ++ call_of c ∷ []) c.take_memory.ensures.calls

pub invariant_of-self-2 : goal.invariant_of-self-2
invariant_of-self-2 c =
    let j = c.args.self.now in
    record {
      few = c.requires;
      numbered = noted_within (files_of j.first) (files_of j.files) j.calls.items j.count j.numbered j.replayed (call_of c) refl c.push.new.self.items (pushed c);
      replayed = noted_replayed (files_of j.first) (files_of j.files) j.calls.items j.count j.numbered j.replayed (call_of c) refl c.push.new.self.items (pushed c) _
          (c.in_ok-there.ensures.ok ∙ ap (λ (change : Files → Files). where_done c.args.done change (files_of j.files)) (sym c.in_ok-noted_change.ensures.change));
    }

-- what was noted may be made as what was asked for
cut_is : (c : In_ok-noted_change) → cut_off c.in_ok-noted_change.noted_change ≡ where_done (may_be_made c.args.change.now) (requested c.args.change.now)
cut_is c = λ i. where_done (c.in_ok-noted_change.ensures.may i) (c.in_ok-noted_change.ensures.change i)

either : (may : Bool) (change : Files → Files) (files : Files) → BeforeOrAfter change files (where_done may change files)
either true change files = inr refl
either false change files = inl refl

pub returns-clause-time : goal.returns-clause-time
returns-clause-time c =
    let j = c.args.self.now in
    let d = (goal.at.returns-clause-time c).After-push in
    let cut = cut_is (goal.at.returns-clause-time c).In_ok-noted_change in
    let may = may_be_made c.args.change.now in
    let makes = subst (λ (change : Files → Files). BeforeOrAfter (requested c.args.change.now) (files_of j.files) (change (files_of j.files))) (sym cut) (either may (requested c.args.change.now) (files_of j.files)) in
    λ was now. noted_passes (files_of j.first) (files_of j.files) j.calls.items j.count j.numbered j.replayed (call_of d) refl c.push.new.self.items (pushed d)
    (BeforeOrAfter (requested c.args.change.now) (files_of j.files)) (inl refl) makes _ _

pub returns-clause-inside : goal.returns-clause-inside
returns-clause-inside c =
    let j = c.args.self.now in
    let d = (goal.at.returns-clause-inside c).After-push in
    let cut = cut_is (goal.at.returns-clause-inside c).In_ok-noted_change in
    let first = files_of j.first in
    let new = c.push.new.self.items in
    subst (FilesWere first new (2 * j.count + 1)) (ap (λ (change : Files → Files). change (files_of j.files)) cut)
    (noted_inside first (files_of j.files) j.calls.items j.count j.numbered j.replayed (call_of d) refl new (pushed d))
