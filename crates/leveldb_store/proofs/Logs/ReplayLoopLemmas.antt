-- The replay of logs one after another, up to the last one.
use Rattle.std.specs.Prelude.{Contains, IfSome, IsSome, IsTrue}
use Rattle.std.proofs.Common.{◌≡◌, ◌∙◌, ◌⊎◌, inl, inr, ⊎_elim, ◌≤◌, ◌<◌, ℕ, Bool, true, false, List, [], ◌∷◌, ◌++◌, None, Option, Some, Ok, Err, ap, append_assoc, arith, length-append, map, refl, subst, sym}
use Rattle.std.proofs.lemmas.List.Elements.{All-nil, Contains-append_right}
use Rattle.std.proofs.lemmas.Option.{IfSome_then}
use Rattle.leveldb_base.proofs.HistoryLemmas.{in_front, in_none}
use Rattle.leveldb_base.specs.Error.{IsOutOfMemory}
use Rattle.leveldb_base.specs.History.{AreUpTo}
use Rattle.leveldb_base.specs.KeyTypes.{user_part}
use Rattle.leveldb_base.specs.declared.cmp.Cmp.{Ghosts as CmpGhosts}
use Rattle.leveldb_base.specs.declared.error.Status.{Status}
use Rattle.leveldb_base.specs.declared.error.StatusCode.TheVariants.{Corruption}
use Rattle.leveldb_base.specs.declared.types.FileMetaData.{FileMetaData}
use Rattle.leveldb_env.specs.Env.{HasCause}
use Rattle.leveldb_env.specs.declared.env.Env.{Ghosts}
use Rattle.leveldb_env.specs.declared.filter.FilterPolicy.{Ghosts as FilterGhosts}
use Rattle.leveldb_store.proofs.Keeping.OrderedFilesLemmas.{none_ordered}
use Rattle.leveldb_version_set.proofs.Sets.RecoverLemmas.{cause_of_error}
use Rattle.leveldb_mem.specs.WriteBatch.{Batch}
use Rattle.leveldb_files.specs.Stores.Paths.{log_path}
use Rattle.leveldb_files.specs.Edits.Edit.{NewFile}
use Rattle.leveldb_version_set.specs.Compactions.Inputs.{AreOrdered}
use Rattle.leveldb_version.specs.Edits.VersionEdit.{new_file_of}
use Rattle.leveldb_version_set.specs.Sets.VersionSetValue.{VersionSetValue}
use Rattle.leveldb_store.specs.Tables.BuildTable.{TableChoices}
use Rattle.leveldb_files.specs.Stores.Format.{Agrees, Format, Meaning}
use Rattle.leveldb_store.specs.Logs.FoundLogs.{LogBeginsWith, LogsBeginWith}
use Rattle.leveldb_store.specs.Openings.OpeningSteps.{AreDamagedLogs, AreInTablesBut, DamagesLogs, HasReplayedLogs, MakeFewTables, ReplaysLogs, ReplaysNext, WhyNotReplayed, entries_to_write, made_files}
use Rattle.leveldb_store.specs.Keeping.OpenStore.{AreNumbersGiven}
use Rattle.leveldb_store.specs.Logs.ReplayLog.{FailsAtLog, IsUnusable, MakesTablesOnly}
use Rattle.leveldb_store.specs.Writing.Room.{IsFull}
use Rattle.leveldb_store.specs.declared.opening.replay.Replay.{Replay}
use Rattle.leveldb_store.specs.declared.opening.replay.UsedLog.{UsedLog}
use Rattle.leveldb_store.specs.declared.opening.replay.UsedLog.{UsedLog}
use Rattle.leveldb_store.proofs.Logs.FoundLogsLemmas.{log_same, logs_before, logs_then}
use Rattle.leveldb_store.proofs.Logs.ReplayDamageLemmas.{log_stays}
use Rattle.leveldb_store.proofs.Logs.ReplayFilesLemmas.{GivesNumbers-refl, MakesTablesOnly-none, MakesTablesOnly-trans, same_store}

-- each format has a meaning of names and ids
abbrev meaning_of : Format → Meaning
meaning_of format = record {
  orders = λ name. format.order;
  codings = format.codings;
  filters = λ name. Some (λ key. format.matches (user_part key));
}

agrees_with : (format : Format) → Agrees format (meaning_of format)
agrees_with format = record { order = refl; codings = λ id coding is. is; filters = refl }

-- ---- the last one

none_with_last : {X : Type 0} (xs : List X) (x : X) → [] ≡ xs ++ x ∷ [] → ⊥
none_with_last [] x e = cc
none_with_last (y ∷ xs) x e = cc

rest_of_same : {X : Type 0} (x y : X) (xs ys : List X) → x ∷ xs ≡ y ∷ ys → xs ≡ ys
rest_of_same x y xs ys e = cc

-- a list has one last element
pub one_last : {X : Type 0} (xs ys : List X) (x y : X) → xs ++ x ∷ [] ≡ ys ++ y ∷ [] → x ≡ y
one_last [] [] x y e = cc
one_last [] (b ∷ ys) x y e =
    absurd (none_with_last ys y (rest_of_same x b [] (ys ++ y ∷ []) e))
one_last (a ∷ xs) [] x y e =
    absurd (none_with_last xs x (rest_of_same y a [] (xs ++ x ∷ []) (sym e)))
one_last (a ∷ xs) (b ∷ ys) x y e =
    one_last xs ys x y (rest_of_same a b (xs ++ x ∷ []) (ys ++ y ∷ []) e)

-- of no numbers none is the last
pub no_last : {P : Type 0} (numbers front : List ℕ) (number : ℕ) → numbers ≡ []
    → numbers ≡ front ++ number ∷ [] → P
no_last numbers front number none is = absurd (none_with_last front number (sym none ∙ is))

-- what holds where a log is used on holds if one is
pub used_so : {C P : Type 0} (used : Option (UsedLog C)) (n : ℕ)
    → IfSome used (λ it. P × (it.number ≡ n)) → IsSome used → P
used_so None n so some = absurd (let never : false ≡ true = some in cc)
used_so (Some used) n so some = so.0

module _ {E F D FP C : Type 0} (env : Ghosts E F) {order : CmpGhosts D} {filters : FilterGhosts FP}
    (choices : TableChoices order filters) (limit : ℕ) (set : VersionSetValue) (numbers : List ℕ)
    (from : E) where
  -- the first of these logs are replayed, and these are left; the one that is used on is the last
  pub record IsReplaying (replay : Replay C) (rest : List ℕ) (now : VersionSetValue) (at : E)
      : Type 0 where
    pub front : List ℕ
    pub numbers_are : front ++ rest ≡ numbers
    pub spares : MakesTablesOnly env set from now at
    pub counted : env.failures at ≡ env.failures from
    pub replayed : IsTrue env.models_disk → (meaning : Meaning) → Agrees choices.format meaning
        → HasReplayedLogs choices.format.order meaning set (env.observed from).disk.files front replay
        now (env.observed at).disk.files
    pub from_log : IfSome replay.used (λ used. set.log_number ≤ used.number)
    pub is_last : IsSome replay.used → rest ≡ []
    pub up_to : AreUpTo replay.last (entries_to_write replay.used)
    pub room : IfSome replay.used (λ used. IsFull limit used.entries.kept → ⊥)
    pub given : AreNumbersGiven now (made_files replay.tables.items)
    pub ordered : AreOrdered choices.format.order (made_files replay.tables.items)
    pub few : MakeFewTables env front set from now

  -- none is replayed yet
  pub IsReplaying-none : (replay : Replay C) → replay.tables.items ≡ [] → replay.used ≡ None
      → replay.is_clean ≡ true → replay.last ≡ 0 → IsReplaying replay numbers set from
  IsReplaying-none replay no_tables unused is_clean last = record {
    front = [];
    numbers_are = refl;
    spares = MakesTablesOnly-none env set from;
    counted = refl;
    replayed = λ modelled meaning agrees. record {
      gives = GivesNumbers-refl set;
      same = λ path others. refl;
      logs = [];
      are_logs = record {
        numbers_are = refl;
        each = λ log c. absurd (in_none log c);
        in_order = tt;
        ends = λ front one later parts. absurd (no_part front one later parts);
      };
      last_is = last;
      clean_is = λ e log c. absurd (in_none log c);
      bad_is = λ e. absurd (let never : true ≡ false = sym is_clean ∙ e in cc);
      tables = [];
      files_are = sym (ap (map (λ (file : FileMetaData). new_file_of (0, file))) no_tables);
      made_tables = record {
        each = λ table c. absurd (in_none table c);
        numbers = λ table c. absurd (in_none table c);
        rising = λ i j d less within. absurd (omega (arith, within));
      };
      tables_made = subst (λ used. AreInTablesBut used [] []) (sym unused) (λ entry. (λ c. c, λ c. c));
      leaves = λ e. (refl, λ log c. absurd (in_none log c));
    };
    from_log = subst (λ used. IfSome used (λ it. set.log_number ≤ it.number)) (sym unused) tt;
    is_last = λ some. absurd
        (let never : false ≡ true = subst (λ used. IsSome used) unused some in cc);
    up_to = subst (AreUpTo replay.last) (sym (ap entries_to_write unused))
        (λ entry c. absurd (in_none entry c));
    room = subst (λ used. IfSome used (λ it. IsFull limit it.entries.kept → ⊥)) (sym unused) tt;
    given = subst (λ made. AreNumbersGiven set (made_files made)) (sym no_tables)
        (All-nil (λ (file : NewFile). file.number < set.next_file));
    ordered = none_ordered choices.format.order replay.tables.items no_tables;
    few = ([], λ modelled. refl, omega arith);
  }
    where
      no_part : {X : Type 0} (front : List X) (one : X) (later : List X)
          → [] ≡ front ++ one ∷ later → ⊥
      no_part [] one later e = cc
      no_part (x ∷ front) one later e = cc

  module _ (replay : Replay C) (left : List ℕ) (number : ℕ) (rest : List ℕ)
      (first : left ≡ number ∷ rest) (now : VersionSetValue) (at : E)
      (replaying : IsReplaying replay left now at) where
    so_far : IsReplaying replay (number ∷ rest) now at
    so_far = subst (λ ns. IsReplaying replay ns now at) first replaying

    -- a log is as it was at first
    log_still : IsTrue env.models_disk → (n : ℕ)
        → (env.observed from).disk.files (log_path set.store n)
        ≡ (env.observed at).disk.files (log_path now.store n)
    log_still modelled n =
        sym (log_stays set now (env.observed from).disk.files (env.observed at).disk.files
        (so_far.spares.run modelled).has n)
        ∙ ap (λ s. (env.observed at).disk.files (log_path s n))
        (sym (same_store so_far.spares.numbers))

    -- it begins with the batches with which it began
    began : IsTrue env.models_disk → (n : ℕ) (batches : List Batch)
        → LogBeginsWith now.store (env.observed at).disk.files n batches
        → LogBeginsWith set.store (env.observed from).disk.files n batches
    began modelled n batches = log_same now.store set.store (env.observed at).disk.files
        (env.observed from).disk.files n (log_still modelled n) batches

    -- with none after it, this is the last one
    pub last_is : rest ≡ [] → (front : List ℕ) (n : ℕ) → numbers ≡ front ++ n ∷ [] → number ≡ n
    last_is none front n is = one_last so_far.front front number n
        (ap (λ later. so_far.front ++ number ∷ later) (sym none) ∙ so_far.numbers_are ∙ is)

    -- and if it can't be used on now, it couldn't at first
    pub unusable_before : IsTrue env.models_disk
        → IsUnusable limit now.store (env.observed at).disk.files number → (n : ℕ) → number ≡ n
        → IsUnusable limit set.store (env.observed from).disk.files n
    unusable_before modelled it n is = record {
      log = it.log;
      number_is = it.number_is ∙ is;
      has_log = (it.has_log.0, log_still modelled it.log.number ∙ it.has_log.1, it.has_log.2);
      why = it.why;
    }

    pub log_number_still : now.log_number ≡ set.log_number
    log_number_still = ap (λ (v : VersionSetValue). v.log_number) so_far.spares.numbers.set

    module _ (may_go_on : Bool) (new : Replay C) (made : VersionSetValue) (to : E) where
      -- one more is replayed
      pub IsReplaying-more : (IsTrue may_go_on → (rest ≡ []) × (now.log_number ≤ number))
          → ReplaysNext env choices limit number may_go_on replay now at (Ok tt) new made to
          → IsReplaying new rest made to
      IsReplaying-more may next = record {
        front = so_far.front ++ number ∷ [];
        numbers_are = append_assoc so_far.front (number ∷ []) rest ∙ so_far.numbers_are;
        spares = MakesTablesOnly-trans env so_far.spares next.spares;
        counted = next.cause.ok ∙ so_far.counted;
        replayed = λ modelled meaning agrees. next.ok modelled meaning agrees set
            (env.observed from).disk.files so_far.front (so_far.replayed modelled meaning agrees);
        from_log = IfSome_then new.used next.used
            (λ used it. let least = (may it.0).1 in let number_is = it.1 in
            let same = log_number_still in omega (arith, least, number_is, same));
        is_last = λ some. last_of new.used next.used some;
        up_to = next.up_to;
        room = next.room;
        given = next.given so_far.given;
        ordered = next.ordered so_far.ordered;
        few = (
          so_far.few.0 ++ next.few.0,
          λ modelled. logs_then set.store (env.observed from).disk.files so_far.front so_far.few.0
              (so_far.few.1 modelled) number next.few.0
              (began modelled number next.few.0 (next.few.1 modelled)),
          let before = so_far.few.2 in let more = next.few.2 in
              let long = length-append so_far.few.0 next.few.0 in
              omega (arith, before, more, long),
        );
      }
        where
          last_of : (used : Option (UsedLog C))
              → IfSome used (λ it. IsTrue may_go_on × (it.number ≡ number)) → IsSome used → rest ≡ []
          last_of None it some = absurd (let never : false ≡ true = some in cc)
          last_of (Some used) it some = (may it.0).0

      -- one isn't
      pub ReplaysLogs-refused : (status : Status)
          → ReplaysNext env choices limit number may_go_on replay now at (Err status) new made to
          → ReplaysLogs env choices {C = C} limit set numbers from (Err status) made to
      ReplaysLogs-refused status next = record {
        spares = MakesTablesOnly-trans env so_far.spares next.spares;
        ok = tt;
        from_log = tt;
        up_to = tt;
        room = tt;
        given = tt;
        ordered = tt;
        few = tt;
        cause = cause_of_error status
            (λ why. ⊎_elim (λ memory. inl memory)
            (λ it. inr (
              ⊎_elim (λ fails. not_kept fails) (λ torn. inr (inr (torn.0, damaged torn.1))) it.0,
              it.1 ∙ so_far.counted,
            )) why)
            (λ why. ⊎_elim (λ memory. inl (inl memory)) (λ it. inr it.1) why)
            (subst (λ count. HasCause {T = Unit {0}} (λ e. IsOutOfMemory e
            ⊎ (Why e × (env.failures to ≡ env.failures at))) count (env.failures to) (Err status))
            so_far.counted next.cause);
      }
        where
          Why : Status → Type 0
          Why e = FailsAtLog env choices now number at e ⊎ ((e.code ≡ Corruption)
              × (IsTrue env.models_disk → DamagesLogs env choices number replay now at))

          not_kept : FailsAtLog env choices now number at status
              → WhyNotReplayed env choices set.store (env.observed from).disk.files numbers
              set.next_file status
          not_kept (batches, begins, inl few) = inl (record {
            batches = so_far.few.0 ++ batches;
            begin = λ modelled. subst
                (λ ns. LogsBeginWith set.store (env.observed from).disk.files ns
                (so_far.few.0 ++ batches))
                (append_assoc so_far.front (number ∷ []) rest ∙ so_far.numbers_are)
                (logs_before set.store (env.observed from).disk.files
                (so_far.front ++ number ∷ []) rest (so_far.few.0 ++ batches)
                (logs_then set.store (env.observed from).disk.files so_far.front so_far.few.0
                (so_far.few.1 modelled) number batches
                (began modelled number batches (begins modelled))));
            too_few = record {
              code = few.code;
              too_few = let before = so_far.few.2 in let more = few.too_few in
                  let long = length-append so_far.few.0 batches in
                  omega (arith, before, more, long);
            };
          })
          not_kept (batches, begins, inr fails) = inr (inl (
            record {
              number = number;
              batches = batches;
              begins = λ modelled. began modelled number batches (begins modelled);
              fails = fails;
            },
            subst (λ ns. Contains ns number) so_far.numbers_are
                (Contains-append_right so_far.front (number ∷ rest) number (in_front number rest)),
          ))

          damaged : (IsTrue env.models_disk → DamagesLogs env choices number replay now at)
              → IsTrue env.models_disk
              → AreDamagedLogs set.store (env.observed from).disk.files numbers
          damaged damages modelled = subst
              (AreDamagedLogs set.store (env.observed from).disk.files) so_far.numbers_are
              (damages modelled (meaning_of choices.format) (agrees_with choices.format) set
              (env.observed from).disk.files so_far.front rest
              (so_far.replayed modelled (meaning_of choices.format) (agrees_with choices.format)))
