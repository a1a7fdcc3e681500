-- Runs of commands over a store that is read alone.
use Rattle.std.specs.Prelude.{Result, Vec}
use Rattle.std.specs.declared.alloc.Global.{Global}
use Rattle.std.proofs.Common.{◌≡◌, ◌≤◌, ◌∙◌, ℕ, List, [], ◌∷◌, ◌++◌, refl, sym, ap, subst, Option, None, Ok, Err, IsTrue}
use Rattle.leveldb_base.specs.History.{History}
use Rattle.leveldb_base.specs.declared.error.Status.{Status}
use Rattle.leveldb_env.proofs.EnvLemmas.{Run-trans}
use Rattle.leveldb_env.specs.Options.{Boxed, OptionsOf}
use Rattle.leveldb_env.specs.declared.env.Env.{Ghosts}
use Rattle.leveldb_iter.specs.declared.moves.Move.{Move}
use Rattle.leveldb_store.specs.Keeping.OpenStore.{OpenStoreValue}
use Rattle.leveldb_files.proofs.Stores.BatchesLemmas.{each_more}
use Rattle.leveldb_files.specs.Stores.Batches.{Each}
use Rattle.leveldb_files.specs.Stores.Format.{Format, Meaning}
use Rattle.leveldb_version.specs.Tables.TableCache.{files_at}
use Rattle.rusty_leveldb.specs.Engines.Boxes.{InternalOrder, ReaderOf}
use Rattle.rusty_leveldb.specs.Openings.ReadAlone.{AnswersAlone, ReaderGets, ReaderOpens, ReadsHistory, ReadsOnly, opened_state, read_state, reader_options}
use Rattle.rusty_leveldb.specs.Programs.RunAlone.{AreAnsweredAlone, HasReadAlone, IsAnsweredAlone, ReaderAnswers, RefusesOthers}
use Rattle.rusty_leveldb.specs.Engines.Serves.{found_or, setting_between}
use Rattle.rusty_leveldb.specs.Programs.Shell.{IsReplyOf}
use Rattle.rusty_leveldb.specs.Machines.State.{Answer, Opening, State}
use Rattle.rusty_leveldb.specs.Walks.Walks.{walk_of}
use Rattle.rusty_leveldb.specs.declared.shell.commands.Command.{Command}
use Rattle.rusty_leveldb.specs.declared.shell.commands.Command.TheVariants as command
use Rattle.rusty_leveldb.specs.declared.shell.commands.Reply.{Reply}
use Rattle.rusty_leveldb.proofs.Openings.ReadAloneLemmas.{disk_still, reads_still}

-- one more command that is answered after others
answered_more : (meaning : Meaning) (state : State) (from mid to : ℕ) (commands : List Command)
    (replies : List Reply) (one : Command) (reply : Reply)
    → AreAnsweredAlone meaning state from commands replies mid → mid ≤ to
    → IsAnsweredAlone (setting_between meaning mid to) state one reply
    → AreAnsweredAlone meaning state from (commands ++ one ∷ []) (replies ++ reply ∷ []) to
answered_more meaning state from mid to [] [] one reply all later is = (
  to,
  subst (λ (n : ℕ). n ≤ to) all later,
  subst (λ (n : ℕ). IsAnsweredAlone (setting_between meaning n to) state one reply) all is,
  refl,
)
answered_more meaning state from mid to [] (first ∷ replies) one reply all later is = absurd all
answered_more meaning state from mid to (first ∷ commands) [] one reply all later is = absurd all
answered_more meaning state from mid to (first ∷ commands) (told ∷ replies) one reply all later is = (
  all.0,
  all.1,
  all.2,
  answered_more meaning state all.0 mid to commands replies one reply all.3 later is,
)

module _ {E C FP F : Type 0} {B : Boxed} (keys : InternalOrder C) (env : Ghosts E F)
    (formats : OptionsOf C FP B → Format) where
  -- one read after another
  module _ (first : ReaderOf E C FP F B) (opened : E) (mid : ReaderOf E C FP F B) (between : E)
      (last : ReaderOf E C FP F B) (to : E) (before : ReadsOnly keys env formats first opened mid between)
      (after : ReadsOnly keys env formats mid between last to) where
    pub reads_then : ReadsOnly keys env formats first opened last to
    reads_then = record {
      still = record {
        disk = λ modelled. Run-trans (before.still.disk modelled)
            (λ files is. is ∙ (before.still.disk modelled).has) (after.still.disk modelled);
        locks = λ modelled. after.still.locks modelled ∙ before.still.locks modelled;
      };
      keeps = λ modelled meaning history reads.
          after.keeps modelled meaning history (before.keeps modelled meaning history reads);
      store = after.store
          ∙ ap (λ (v : OpenStoreValue C). record v { current = last.store.current }) before.store;
      options = after.options ∙ before.options;
    }

    -- so the state in which commands are answered stays
    pub same_state : (history : History)
        → read_state formats mid history ≡ read_state formats first history
    same_state history =
        ap (λ (o : OptionsOf C FP B). opened_state (formats o) history mid.store.set.last_sequence)
        before.options
        ∙ ap (λ (v : OpenStoreValue C). opened_state (formats (reader_options first)) history
        v.set.last_sequence) before.store

  -- What was done so far, since the store was opened: these commands had these replies.
  pub record ReadsSoFar (first : ReaderOf E C FP F B) (opened : E) (commands : List Command)
      (given : List Reply) (now : ReaderOf E C FP F B) (at : E) : Type 0 where
    pub answers : IsTrue env.models_disk → (meaning : Meaning) (history : History)
        → ReadsHistory keys env formats meaning first (files_at env opened) history
        → AreAnsweredAlone meaning (read_state formats first history) (env.failures opened) commands
        given (env.failures at)
    pub others : Each RefusesOthers commands given
    pub reads : ReadsOnly keys env formats first opened now at

  pub so_far_first : (first : ReaderOf E C FP F B) (opened : E)
      → ReadsSoFar first opened [] [] first opened
  so_far_first first opened = record {
    answers = λ modelled meaning history reads. refl;
    others = tt;
    reads = reads_still env formats first opened;
  }

  pub so_far_more : (first : ReaderOf E C FP F B) (opened : E) (commands : List Command)
      (given : List Reply) (mid : ReaderOf E C FP F B) (between : E) (one : Command) (reply : Reply)
      (last : ReaderOf E C FP F B) (to : E) → ReadsSoFar first opened commands given mid between
      → ReaderAnswers keys env formats mid between one reply last to
      → ReadsSoFar first opened (commands ++ one ∷ []) (given ++ reply ∷ []) last to
  so_far_more first opened commands given mid between one reply last to before step = record {
    answers = λ modelled meaning history reads. answered_more meaning (read_state formats first history)
        (env.failures opened) (env.failures between) (env.failures to) commands given one reply
        (before.answers modelled meaning history reads) step.later
        (subst (λ (s : State). IsAnsweredAlone
        (setting_between meaning (env.failures between) (env.failures to)) s one reply)
        (same_state first opened mid between last to before.reads step.rest history)
        (step.answers modelled meaning history
        (before.reads.keeps modelled meaning history reads)));
    others = each_more RefusesOthers commands given one reply before.others step.others;
    reads = reads_then first opened mid between last to before.reads step.rest;
  }

  -- ---- a whole run

  module _ (store : List ℕ) (options : OptionsOf C FP B) (asked : Opening) (from opened : E) where
    -- it was opened, and each command was answered
    pub read_run : (first : ReaderOf E C FP F B) (commands : List Command) (given : List Reply)
        (last : ReaderOf E C FP F B) (to : E) → formats options ≡ asked.format
        → ReaderOpens keys env formats store options asked from (Ok first) opened
        → ReadsSoFar first opened commands given last to
        → HasReadAlone env store asked commands from given (Ok tt) to
    read_run first commands given last to asked_is opens done = record {
      answers = λ modelled meaning agrees old stands.
          let found = opens.finds modelled meaning agrees old stands in (
            found.0,
            first.store.set.last_sequence,
            found.1,
            answered modelled meaning found.0 found.2,
          );
      reads = λ modelled meaning agrees history last is.
          let read = opens.reads modelled meaning agrees history last is in
          subst (λ (n : ℕ). AreAnsweredAlone meaning (opened_state asked.format history n)
          (env.failures from) commands given (env.failures to)) read.0
          (answered modelled meaning history read.1);
      others = done.others;
      none = tt;
      still = record {
        disk = λ modelled. Run-trans (opens.still.disk modelled)
            (λ files is. is ∙ (opens.still.disk modelled).has) (done.reads.still.disk modelled);
        locks = λ modelled. done.reads.still.locks modelled ∙ opens.still.locks modelled;
      };
      missing = opens.missing;
      misnamed = λ no. absurd (opens.misnamed no).1;
    }
      where
        same : formats (reader_options first) ≡ asked.format
        same = ap formats opens.options_are ∙ asked_is

        answered : IsTrue env.models_disk → (meaning : Meaning) (history : History)
            → ReadsHistory keys env formats meaning first (files_at env opened) history
            → AreAnsweredAlone meaning
            (opened_state asked.format history first.store.set.last_sequence) (env.failures from)
            commands given (env.failures to)
        answered modelled meaning history reads =
            subst (λ (k : ℕ). AreAnsweredAlone meaning
            (opened_state asked.format history first.store.set.last_sequence) k commands given
            (env.failures to)) opens.counts
            (subst (λ (f : Format). AreAnsweredAlone meaning
            (opened_state f history first.store.set.last_sequence) (env.failures opened) commands
            given (env.failures to)) same (done.answers modelled meaning history reads))

    -- it wasn't opened
    pub unread_run : (commands : List Command) (given : List Reply) (e : Status) → given ≡ []
        → ReaderOpens keys env formats store options asked from (Err e) opened
        → HasReadAlone env store asked commands from given (Err e) opened
    unread_run commands given e none opens = record {
      answers = tt;
      reads = tt;
      others = tt;
      none = none;
      still = opens.still;
      missing = λ modelled no. tt;
      misnamed = λ no. ((opens.misnamed no).0, tt);
    }

-- there was no memory before it began
pub starved_run : {E F : Type 0} (env : Ghosts E F) (store : List ℕ) (asked : Opening)
    (commands : List Command) (from : E) (given : List Reply) (e : Status) → given ≡ []
    → HasReadAlone env store asked commands from given (Err e) from
starved_run env store asked commands from given e none = record {
  answers = tt;
  reads = tt;
  others = tt;
  none = none;
  still = disk_still env from;
  missing = λ modelled no. tt;
  misnamed = λ no. (refl, tt);
}

-- ---- one command

module _ {E C FP F : Type 0} {B : Boxed} {keys : InternalOrder C} (env : Ghosts E F)
    (formats : OptionsOf C FP B → Format) (before : ReaderOf E C FP F B) (from : E)
    (one : Command) (reply : Reply) (after : ReaderOf E C FP F B) (to : E) where
  -- a look-up
  pub answered_get : (key : Vec ℕ Global) → one ≡ command.Get key → (bytes : List ℕ)
      → bytes ≡ key.items → (result : Result (Option (List ℕ)) Status)
      → IsReplyOf [] reply (found_or result)
      → ReaderGets keys env formats before from bytes result after to
      → ReaderAnswers keys env formats before from one reply after to
  answered_get key is bytes same result tells gets = record {
    answers = λ modelled meaning history reads. subst (λ (c : Command). IsAnsweredAlone
        (setting_between meaning (env.failures from) (env.failures to))
        (read_state formats before history) c reply) (sym is) (
          found_or result,
          tells,
          (subst (λ (b : List ℕ). ReaderGets keys env formats before from b result after to) same
              gets).answers modelled meaning history reads,
        );
    others = subst (λ (c : Command). RefusesOthers c reply) (sym is) tt;
    rest = gets.rest;
    later = gets.cause.later;
  }

  -- a walk over the store as it is now
  pub answered_walk : (moves : Vec Move Global) (at : Option ℕ) → one ≡ command.Walk at moves
      → at ≡ None → (given : List Move) → given ≡ moves.items → (answer : Answer)
      → IsReplyOf [] reply answer
      → AnswersAlone keys env formats before from (walk_of None given) answer to
      → ReadsOnly keys env formats before from after to → env.failures from ≤ env.failures to
      → ReaderAnswers keys env formats before from one reply after to
  answered_walk moves at is now given same answer tells answers rest later = record {
    answers = λ modelled meaning history reads. subst (λ (c : Command). IsAnsweredAlone
        (setting_between meaning (env.failures from) (env.failures to))
        (read_state formats before history) c reply) (sym of_now) (
          answer,
          tells,
          subst (λ (m : List Move). AnswersAlone keys env formats before from (walk_of None m) answer
              to) same answers modelled meaning history reads,
        );
    others = subst (λ (c : Command). RefusesOthers c reply) (sym of_now) tt;
    rest = rest;
    later = later;
  }
    where
      of_now : one ≡ command.Walk None moves
      of_now = is ∙ ap (λ (a : Option ℕ). command.Walk a moves) now
