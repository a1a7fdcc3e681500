-- What the program's steps did, put together.
use Rattle.std.proofs.Common.{◌≡◌, ◌<◌, ◌≤◌, ℕ, Bool, true, List, [], ◌∷◌, ◌++◌, length, drop, get_or, Option, None, Result, Ok, Err, refl, sym, ap, subst, ◌∙◌, arith}
use mathlib.Core.HProp.{h_prop_ext}
use Rattle.std.specs.Prelude.{OnOk, String, codes, false, ◌&&◌, is_some}
use Rattle.std.specs.Io.KnownBytes.{Appends}
use Rattle.std.specs.declared.alloc.Global.{Global}
use Rattle.std.specs.declared.io.Read.{Ghosts as ReadGhosts}
use Rattle.std.specs.declared.io.Write.{Ghosts as WriteGhosts}
use Rattle.std.proofs.Math.Seq.{drop-append_seam}
use Rattle.leveldb_base.specs.declared.cmp.DefaultCmp.{DefaultCmp}
use Rattle.leveldb_base.specs.declared.error.Status.{Status}
use Rattle.leveldb_env.specs.declared.env.Env.{Ghosts}
use Rattle.leveldb_env.specs.declared.infolog.Logger.{Logger}
use Rattle.rusty_leveldb.specs.declared.shell.commands.Command.{Command}
use Rattle.rusty_leveldb.specs.declared.shell.commands.Reply.{Reply}
use Rattle.leveldb_store.specs.Tables.BuildTable.{TableChoices}
use Rattle.rusty_leveldb.specs.Machines.State.{Opening}
use Rattle.rusty_leveldb.specs.Programs.Language.{reply_lines}
use Rattle.leveldb_env.specs.Compressor.{Codings, plain_codings}
use Rattle.leveldb_env.specs.Options.{Boxed, OptionsOf, HasDefaultChoices}
use Rattle.rusty_leveldb.specs.Engines.Engine.{is_size_within, are_within_limits}
use Rattle.rusty_leveldb.specs.declared.shell.program.Fault.{Fault}
use Rattle.rusty_leveldb.specs.declared.shell.program.Fault.TheVariants as fault
use Rattle.rusty_leveldb.specs.declared.shell.program.Task.TheVariants as task
use Rattle.rusty_leveldb.specs.declared.shell.program.Way.{Way}
use Rattle.rusty_leveldb.specs.declared.shell.program.Way.TheVariants as way
use Rattle.rusty_leveldb.specs.Programs.Program.{status_of, ldb_boxes, ldb_filters, ldb_keys, ldb_opening, AreLdbOptions, EndsProgram, HasPlayed, HasRunBy, IsAnswered, IsFault, IsPlayed, IsStopped, NamesFolder, OnWhole, RunsByDefault}
use Rattle.rusty_leveldb.specs.Programs.RunCalls.{RunsByCalls}
use Rattle.rusty_leveldb.specs.Engines.Witness.{stored}
use Rattle.rusty_leveldb.specs.Programs.Story.{SaysRun}
use Rattle.rusty_leveldb.proofs.Programs.Playing.{OnlyNow}
use Rattle.rusty_leveldb.proofs.Programs.RunStories.{run_story}

-- a fault's status isn't 0
pub some_status : (one : Fault) → (1 ≤ status_of one) × (status_of one ≤ 2)
some_status fault.Usage = (omega arith, omega arith)
some_status (fault.BadLine number) = (omega arith, omega arith)
some_status fault.TooLong = (omega arith, omega arith)
some_status (fault.Unread status) = (omega arith, omega arith)
some_status (fault.Refused status) = (omega arith, omega arith)

-- a list of one element
pub one_word : (words : List (String Global)) (word : String Global) → 1 ≤ length words → length words < 2 → word ≡ get_or words 0 word → words ≡ word ∷ []
one_word [] word some few is = absurd (omega (arith, some))
one_word (first ∷ []) word some few is = ap (λ (w : String Global). w ∷ []) (sym is)
one_word (first ∷ second ∷ others) word some few is = absurd (omega (arith, few))

-- a list of two
pub two_words : (words : List (String Global)) (first second : String Global) → 2 ≤ length words → length words < 3 → first ≡ get_or words 0 first → second ≡ get_or words 1 second
    → words ≡ first ∷ second ∷ []
two_words [] first second some few is then = absurd (omega (arith, some))
two_words (a ∷ []) first second some few is then = absurd (omega (arith, some))
two_words (a ∷ b ∷ []) first second some few is then = ap (λ (w : String Global). w ∷ b ∷ []) (sym is) ∙ ap (λ (w : String Global). first ∷ w ∷ []) (sym then)
two_words (a ∷ b ∷ c ∷ others) first second some few is then = absurd (omega (arith, few))

-- ---- what the program's options own in boxes

-- a type without values is the empty one
emptied : {V : Type 0} → (V → ⊥) → V ≡ ⊥
emptied none = h_prop_ext (λ x y. absurd (none x)) (λ x y. absurd x) none (λ never. absurd never)

-- what holds of boxes of a type without values holds of the empty one
at_none : (P : (V : Type 0) → (V → Type 0) → Type 0) {V : Type 0} (row : V → Type 0) → (V → ⊥)
    → P V row → P ⊥ (λ none. ⊥)
at_none P {V = V} row none p =
    let Q : Type 0 → Type 1 = λ X. (one : X → Type 0) → P X one → P ⊥ (λ none. ⊥) in
    subst Q (sym (emptied none)) (λ one q. subst (P ⊥) (λ i x. never x (one x) i) q) row p
  where
    never : ⊥ → (A : Type 0) → A ≡ ⊥
    never x A = absurd x

-- default options are so without their log, too
pub still_default : {B : Boxed} {options : OptionsOf DefaultCmp ℕ B} → HasDefaultChoices options
    → HasDefaultChoices (record options { log = None })
still_default d = record {
  log = refl;
  create = d.create;
  no_error = d.no_error;
  paranoid = d.paranoid;
  write_buffer = d.write_buffer;
  open_files = d.open_files;
  file = d.file;
  block_cache = d.block_cache;
  block = d.block;
  restart_interval = d.restart_interval;
  compressor = d.compressor;
  reuse_logs = d.reuse_logs;
  reuse_manifest = d.reuse_manifest;
}

-- the types of boxes by those of sinks and of compressors
abbrev pub boxes_of : (S V : Type 0) → (S → Type 0) → (V → Type 0) → Boxed
boxes_of S V sink row = record { sinks = S; compressors = V; sink = sink; compressor = row }

module _ {E F S V : Type 0} {sink : S → Type 0} (row : V → Type 0) (none : V → ⊥) (env : Ghosts E F) (log : Option (Logger S sink))
    (choices : OptionsOf DefaultCmp ℕ (boxes_of S V sink row) → TableChoices ldb_keys ldb_filters)
    (options : OptionsOf DefaultCmp ℕ (boxes_of S V sink row)) (wanted : Opening)
    (folder : List ℕ) (commands : List Command) (from to : E) (given : List Reply) (ended : Result (Unit {0}) Status) where
  -- the run's calls, of such an opening
  abbrev Calls : Opening → Type 0
  Calls asked = RunsByCalls {B = boxes_of S V sink row} env choices folder options asked commands from given ended to

  -- a run by its calls, whose options own no compressor in a box
  by_default : AreLdbOptions (boxes_of S V sink row) log choices options → wanted ≡ ldb_opening → (one : Way) → OnWhole one (Calls wanted)
      → OnWhole one (RunsByDefault (ldb_boxes S sink) log env folder commands from given ended to)
  by_default are asks way.Whole calls =
      at_none (λ X one. RunsByDefault (boxes_of S X sink one) log env folder commands from given ended to)
      row none (choices, options, are, subst Calls asks calls)
  by_default are asks way.Alone calls = tt

  -- what was run over a store that isn't read alone is a story
  is_story : OnlyNow env → (one : Way)
      → HasRunBy env one folder ldb_opening commands from given ended to
      → OnWhole one (SaysRun env stored folder ldb_opening.format commands from given ended to)
  is_story only_now way.Whole run =
      run_story env only_now folder ldb_opening commands from to given ended run
  is_story only_now way.Alone run = tt

  -- so the program ran the commands
  pub has_played : OnlyNow env → (one : Way) → HasRunBy env one folder wanted commands from given ended to → OnWhole one (Calls wanted)
      → AreLdbOptions (boxes_of S V sink row) log choices options → wanted ≡ ldb_opening
      → HasPlayed env log one folder commands from given ended to
  has_played only_now one run calls are asks =
      let asked = subst (λ (o : Opening). HasRunBy env one folder o commands from given ended to) asks
      run in
      (is_story only_now one asked, asked, by_default are asks one calls)

-- a run that went through, whose replies were written
pub played : {E F S : Type 0} {sink : S → Type 0} (env : Ghosts E F) (log : Option (Logger S sink)) (one : Way) (folder : List ℕ) (commands : List Command) (from to : E) (held holds : Option (List ℕ)) (old new told : List Reply)
    (ended : Unit {0}) (r : Result (Unit {0}) Status) → old ≡ [] → told ≡ new
    → HasPlayed env log one folder commands from (drop (length old) new) (Ok ended) to
    → ((given : List Reply) × (new ≡ old ++ given) × (length given ≡ length commands))
    → OnOk r (Appends held holds (reply_lines told))
    → OnOk r (IsPlayed env log one folder commands from to held holds)
played env log one folder commands from to held holds old new told ended (Err status) none same run behind appends = tt
played env log one folder commands from to held holds old new told ended (Ok done) none same run behind appends =
    let given = behind.0 in
    let replies : drop (length old) new ≡ given = ap (drop (length old)) behind.1 ∙ drop-append_seam old given in
    let P : List Reply → Type 0 = λ list. HasPlayed env log one folder commands from list (Ok tt) to in
    let T : List Reply → Type 0 = λ list. Appends held holds (reply_lines list) in (
      given,
      behind.2,
      subst P replies run,
      subst T (same ∙ behind.1 ∙ ap (λ (list : List Reply). list ++ given) none) appends,
    )

-- default sizes and counts are within their limits
pub default_fits : {C FP : Type 0} {B : Boxed} {options : OptionsOf C FP B} → HasDefaultChoices options → are_within_limits options ≡ true
default_fits d = λ i.
    is_size_within 1 (d.write_buffer i) && is_size_within 11 (d.open_files i) && is_size_within 1 (d.file i)
    && is_size_within 1 (d.block i) && is_size_within 1 (d.restart_interval i) && is_size_within (d.block i) (d.block_cache i)

-- the id 0 is set where blocks are plain
pub default_compresses : {codings : Codings} {id : ℕ} → codings ≡ plain_codings → id ≡ 0 → is_some (codings id) ≡ true
default_compresses plain zero = λ i. is_some (plain i (zero i))

-- default options with plain blocks ask for the program's opening
pub asks_so : {codings : Codings} {create exists fits compresses : Bool} → codings ≡ plain_codings → create ≡ true → exists ≡ false → fits ≡ true → compresses ≡ true
    → (record ldb_opening { format = record (ldb_opening.format) { codings = codings }; create_if_missing = create; error_if_exists = exists; fits = fits; compresses = compresses }) ≡ ldb_opening
asks_so same create exists fits compresses = λ i. record ldb_opening { format = record (ldb_opening.format) { codings = same i }; create_if_missing = create i; error_if_exists = exists i; fits = fits i; compresses = compresses i }

-- ---- the program's end

-- arguments that ask for a repair don't ask for a run
pub one_task : (args : List (String Global)) (one : Way) (folder other : List ℕ) → NamesFolder args (task.Run one) folder → NamesFolder args task.Repair other → ⊥
one_task args way.Whole folder other run repairs =
    let both : folder ∷ [] ≡ codes "--repair" ∷ other ∷ [] = sym run ∙ repairs in omega (arith, ap length both)
one_task args way.Alone folder other run repairs =
    let both : codes "--read-only" ∷ folder ∷ [] ≡ codes "--repair" ∷ other ∷ [] = sym run ∙ repairs in
    let first : 11 ≡ 8 = ap (λ (words : List (List ℕ)). length (get_or words 0 [])) both in omega (arith, first)

module _ {E F S I O : Type 0} {sink : S → Type 0} (env : Ghosts E F) (log : Option (Logger S sink)) (reads : ReadGhosts I) (writes : WriteGhosts O) (args : List (String Global)) (from : E) (input : I) (out : O) (to : E) (rest : I) (written : O) where
  -- all was answered
  pub ends_answered : IsAnswered env log args from to (reads.remaining input) (writes.contents out) (writes.contents written)
      → EndsProgram env log reads writes args from input out 0 to rest written
  ends_answered all = record {
    answered = λ zero. all;
    stopped = λ one. absurd (omega (arith, one));
    untouched = λ two. absurd (omega (arith, two));
    misasked = λ two. absurd (omega (arith, two));
    statuses = omega arith;
  }

  -- or there was a fault
  pub ends_at_fault : (why : Fault) (status : ℕ) → status ≡ status_of why → (status_of why ≡ 2 → (to ≡ from) × (written ≡ out))
      → IsStopped env log args from to (reads.remaining input) → IsFault args (reads.remaining input) why
      → EndsProgram env log reads writes args from input out status to rest written
  ends_at_fault why status is still stopped fault_is =
      let some = some_status why in
      record {
        answered = λ zero. absurd (omega (arith, some.0, is, zero));
        stopped = λ one. stopped;
        untouched = λ two. still (sym is ∙ two);
        misasked = λ two. (why, sym is ∙ two, fault_is);
        statuses = omega (arith, some.1, is);
      }
