-- After a crash the disk that is left holds what it carries, all of it durable; and so on through
-- later crashes.
use Rattle.std.proofs.Common.{◌≡◌, ◌≤◌, ◌+◌, inl, ℕ, List, [], ◌∷◌, ◌++◌, length, refl, sym, ◌∙◌, ap, subst, arith, false, Option, Some, None, append-nil}
use Rattle.std.proofs.lemmas.List.{take_all}
use Rattle.leveldb_base.specs.History.{History, IsHistory, entries_of, greatest}
use Rattle.leveldb_base.proofs.HistoryLemmas.{in_none}
use Rattle.leveldb_env.specs.Env.{File, Files, Disk, FileCrashesTo, FilesCrashTo, kept_file}
use Rattle.leveldb_files.specs.Stores.Paths.{lock_path}
use Rattle.leveldb_files.specs.Stores.Contents.{Store, Contents}
use Rattle.leveldb_files.specs.Histories.Holds.{Carries, CarriesPrefix, IsSafe, Holds, IsHonest}
use Rattle.rusty_leveldb.specs.Machines.State.{State, closed}
use Rattle.rusty_leveldb.specs.Machines.Machine.{Risk, Crashes}
use Rattle.rusty_leveldb.specs.Engines.Serves.{Reads, StandsFor, IsSpared}
use Rattle.rusty_leveldb.proofs.Engines.Bounds.{carries_more, carries_just}
use Rattle.leveldb_files.proofs.Histories.NumbersLemmas.{history_part, greatest_part}
use Rattle.rusty_leveldb.proofs.Engines.ReadsLemmas.{crash_bytes}
use Rattle.leveldb_files.specs.Stores.Format.{Meaning}

no_bytes : (tail : List ℕ) → length tail ≤ 0 → tail ≡ []
no_bytes [] le = refl
no_bytes (b ∷ tail) le = absurd (let never : ⊥ = omega arith in never)

-- what a crash left, a second crash leaves as it is
left_again : (f g h : Option File) → FileCrashesTo f g → FileCrashesTo g h → g ≡ h
left_again None g h first second = first ∙ sym (subst (λ x. FileCrashesTo x h) first second)
left_again (Some f) g h first second =
    let again : FileCrashesTo (Some (kept_file (f.kept ++ first.0))) h = subst (λ x. FileCrashesTo x h) first.3 second in
    let same : f.kept ++ first.0 ≡ (f.kept ++ first.0) ++ again.0 = sym (append-nil (f.kept ++ first.0)) ∙ ap (λ t. (f.kept ++ first.0) ++ t) (sym (no_bytes again.0 again.2)) in
    first.3 ∙ ap (λ bytes. Some (kept_file bytes)) same ∙ sym again.3

pub files_again : (files left again : Files) → FilesCrashTo files left → FilesCrashTo left again → left ≡ again
files_again files left again first second = λ i name. left_again (files name) (left name) (again name) (first name) (second name) i

module _ (store : List ℕ) (reads : Files → Contents → Type 0) where
  -- the disk that is left holds what it carries, with the store that it has
  pub crash_holds : {allowed : Store → Type 0} (files left : Files) (bound durable : ℕ) (history : History) → IsSafe store reads allowed bound durable history files → FilesCrashTo files left → IsHonest store files left
      → (c : CarriesPrefix store reads allowed bound durable history left) × Holds store reads (λ now. now ≡ c.carries.contents.store) left c.part bound (length c.part) None
  crash_holds files left bound durable history safe leaves honest =
      let c = safe left leaves honest in
      let now = carries_more store reads bound (bound + 0) (omega arith) c.part left (carries_just store reads bound c.part left c.carries) in (
        c,
        record {
          now = inl now;
          crash = λ again leaves2 honest2. record {
            part = c.part;
            prefix = record { count = length c.part; enough = omega arith; there = omega arith; first = sym (take_all (length c.part) c.part (omega arith)) };
            carries = subst (λ x. Carries store reads (λ now. now ≡ c.carries.contents.store) (bound + 0) c.part x) (files_again files left again leaves leaves2) now;
          };
        },
      )

-- the crash row
module _ (store : List ℕ) (meaning : Meaning) where
  pub crash_row : (old : State) (risk : Risk) (files : Files) (left : Disk) → IsHistory risk.history → greatest (entries_of risk.history) ≤ risk.bound → IsSpared store meaning old risk files
      → FilesCrashTo files left.files → IsHonest store files left.files → ((name : List ℕ) → left.locked name ≡ false) → (then : State) × Crashes old risk then × StandsFor store meaning left then
  crash_row old risk files left is reached spared leaves honest free =
      let found = crash_holds store (Reads store meaning) files left.files risk.bound old.durable risk.history spared leaves honest in
      let c = found.0 in
      let low = greatest_part old.durable risk.history c.part c.prefix in
      let then : State = record {
        history = c.part;
        last = risk.bound;
        durable = length c.part;
        held = [];
        given = [];
        pending = None;
        mode = closed;
        locked = false;
        store = c.carries.contents.store;
        format = old.format;
      } in (
        then,
        record { prefix = c.prefix; stays = c.carries.matches.store; state = refl },
        record {
          is_state = record {
            history = history_part old.durable risk.history c.part is c.prefix;
            reached = omega arith;
            pending = omega arith;
            durable = omega arith;
            held = λ one' there. absurd (in_none one' there);
            mode = record { held = refl; given = refl };
          };
          holds = found.1;
          bytes = crash_bytes files left.files leaves;
          locked = free (lock_path store);
          agrees = λ never. absurd (never refl);
        },
      )
