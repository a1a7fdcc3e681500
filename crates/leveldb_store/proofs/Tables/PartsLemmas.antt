-- What there is of tables while they are written: each is a part of one of their pairs.
use Rattle.std.specs.Prelude.{Contains, IsTrue}
use Rattle.std.proofs.Common.{◌≡◌, ◌⊎◌, ◌∙◌, inl, inr, ⊎_elim, ℕ, Bool, true, false, List, [], ◌∷◌, ◌++◌, Option, None, Some, Result, Ok, Err, refl, sym, ap, subst, append_assoc}
use Rattle.std.proofs.lemmas.List.{append-nil}
use Rattle.std.specs.Cmp.Lexicographic.{bytes_decides}
use Rattle.std.specs.Str.{bytes_eq}
use Rattle.leveldb_base.proofs.HistoryLemmas.{in_none}
use Rattle.leveldb_base.specs.Types.{Pair}
use Rattle.leveldb_base.specs.declared.cmp.Cmp.{Ghosts as CmpGhosts}
use Rattle.leveldb_base.specs.declared.error.Status.{Status}
use Rattle.leveldb_env.proofs.EnvLemmas.{Run-call, Run-mono, Run-trans, at_other, at_same, begun}
use Rattle.leveldb_env.specs.Env.{BeforeOrAfter, ChangesFiles, File, Files, Observed, Run, SameBut, bytes_of, emptied, kept_file}
use Rattle.leveldb_env.specs.EnvFile.{Opened, opened, opened_file}
use Rattle.leveldb_env.specs.declared.env.Env.{Ghosts as EnvGhosts}
use Rattle.leveldb_env.specs.declared.filter.FilterPolicy.{Ghosts as FilterGhosts}
use Rattle.leveldb_table.specs.TableBuilder.{IsBegun, IsNewBuilder, KeepsChoices, TableBuilt, order_of, policy_of}
use Rattle.leveldb_store.specs.Compactions.Merging.{LeavesFiles}
use Rattle.leveldb_store.specs.Tables.BuildTable.{HasTaken, IsTableBuilt, IsTableUnder, TableChoices, puts_all}
use Rattle.leveldb_store.specs.Tables.TableFile.{AddsToFile, ChangesOneFile, GrowsBy, IsThere, IsUnfinishedWith, LeavesPart, MayPut, StopsWriting}
use Rattle.leveldb_store.specs.Tables.TableParts.{IsBuiltOf, IsLeftUnfinished, IsSameOrPart, IsTablePart, WritesParts}
use Rattle.leveldb_store.proofs.Tables.BuildTableLemmas.{HasTaken-none, IsTableUnder-same, taken_added, taken_begun}
use Rattle.leveldb_store.proofs.Tables.GrowsLemmas.{HasPrefixOf, grows_longer}
use Rattle.leveldb_store.proofs.Tables.TableFileLemmas.{longer_changes, opened_is}
use Rattle.leveldb_store.proofs.Tables.TriesLemmas.{may_none}

-- ---- parts

module _ {C FP : Type 0} {order : CmpGhosts C} {filters : FilterGhosts FP}
    (choices : TableChoices order filters) where
  -- what a builder left unfinished, or a table
  abbrev pub IsWhole : (Pair → Type 0) → List ℕ → Type 0
  IsWhole Has bytes = IsLeftUnfinished choices Has bytes ⊎ IsBuiltOf choices Has bytes

  module _ {Has Other : Pair → Type 0} (so : (pair : Pair) → Has pair → Other pair) where
    whole_so : (bytes : List ℕ) → IsWhole Has bytes → IsWhole Other bytes
    whole_so bytes (inl left) = inl (record {
      pairs = left.pairs;
      each = λ pair there. so pair (left.each pair there);
      core = left.core;
      is_new = left.is_new;
      status = left.status;
      stops = left.stops;
      put = left.put;
    })
    whole_so bytes (inr built) = inr (record {
      pairs = built.pairs;
      each = λ pair there. so pair (built.each pair there);
      built = built.built;
    })

    -- a part of some pairs' table is one of more
    pub part_so : (bytes : List ℕ) → IsTablePart choices Has bytes
        → IsTablePart choices Other bytes
    part_so bytes (whole, rest, split, is) = (whole, rest, split, whole_so whole is)

    pub same_or_part_so : (old now : Option File) → IsSameOrPart choices Has old now
        → IsSameOrPart choices Other old now
    same_or_part_so old now (inl same) = inl same
    same_or_part_so old now (inr (file, is, part)) =
        inr (file, is, part_so (bytes_of file) part)

  module _ {Has : Pair → Type 0} where
    -- a prefix of a part is a part
    pub part_prefix : (bytes more : List ℕ) → IsTablePart choices Has (bytes ++ more)
        → IsTablePart choices Has bytes
    part_prefix bytes more (whole, rest, split, is) =
        (whole, more ++ rest, split ∙ append_assoc bytes more rest, is)

  module _ {core mid : TableBuilt C FP} {pairs : List Pair} {written : List ℕ}
      (is_new : IsNewBuilder order filters choices.cmp choices.policy choices.id
      choices.block_size choices.restarts core)
      (taken : HasTaken order filters choices.format.codings puts_all core [] pairs mid written)
    where
      left_with : (bytes whole : List ℕ) → written ++ bytes ≡ whole
          → IsUnfinishedWith order filters choices.format.codings mid bytes
          → IsLeftUnfinished choices (Contains pairs) whole
      left_with bytes whole is unfinished = record {
        pairs = pairs;
        each = λ pair there. there;
        core = core;
        is_new = is_new;
        status = (unfinished written).0;
        stops = record {
          mid = mid;
          at = written;
          taken = taken;
          to = written ++ bytes;
          cause = (unfinished written).1;
        };
        put = is;
      }

      -- what it made is the table of the pairs, by the choices
      pub built_by : {whole : List ℕ}
          → IsTableUnder order filters choices.format.codings (order_of mid) (policy_of mid)
          mid.compressor mid.block.interval mid.index.interval whole pairs
          → IsTableBuilt choices pairs whole
      built_by made =
          let kept = taken.choices in
          IsTableUnder-same order filters choices.format.codings
          (kept.same_order ∙ is_new.order) (kept.same_policy ∙ is_new.policy)
          (kept.same_compressor ∙ is_new.compressor)
          (kept.same_intervals.0 ∙ is_new.interval.0)
          (kept.same_intervals.1 ∙ is_new.interval.1) made

      begun_with : IsBegun choices.format.codings order filters mid written pairs
      begun_with = taken_begun choices.format.codings (is_new.begun choices.format.codings) taken

      -- what it had put is a part of a table
      pub taken_whole : IsWhole (Contains pairs) written
      taken_whole = inl (left_with [] written (append-nil written)
          (may_none order filters choices.format.codings mid taken.unbroken))

      -- and so it is with what it may put next
      pub left_whole : (bytes : List ℕ)
          → MayPut order filters choices.format.codings mid bytes
          → IsWhole (Contains pairs) (written ++ bytes)
      left_whole bytes (inl unfinished) = inl (left_with bytes (written ++ bytes) refl unfinished)
      left_whole bytes (inr makes) = inr (record {
        pairs = pairs;
        each = λ pair there. there;
        built = built_by (makes written pairs begun_with);
      })

-- ---- what is written

-- two facts of one run
run_both : {P Q : Files → Type 0} {first now : Observed} → Run P first now → Run Q first now
    → Run (λ files. P files × Q files) first now
run_both one two = record {
  has = (one.has, two.has);
  time = record {
    later = one.time.later;
    before = one.time.before;
    meanwhile = λ m files from to there.
        (one.time.meanwhile m files from to there, two.time.meanwhile m files from to there);
    kept = one.time.kept;
  };
}

module _ {C FP : Type 0} {order : CmpGhosts C} {filters : FilterGhosts FP}
    (choices : TableChoices order filters) {E F : Type 0} (env : EnvGhosts E F) where
  pub parts_none : (pairs : List Pair) (at : E) → WritesParts choices env pairs at at
  parts_none pairs at modelled = begun (env.observed at) (λ path. inl refl)

  pub parts_still : (pairs : List Pair) {from to : E} → LeavesFiles env from to
      → WritesParts choices env pairs from to
  parts_still pairs still modelled =
      Run-mono (λ files same path. inl (ap (λ (f : Files). f path) same)) (still.run modelled)

  pub parts_so : (pairs more : List Pair) {from to : E}
      → ((pair : Pair) → Contains pairs pair → Contains more pair)
      → WritesParts choices env pairs from to → WritesParts choices env more from to
  parts_so pairs more {from = from} so parts modelled = Run-mono
      (λ files are path. same_or_part_so choices so ((env.observed from).disk.files path)
      (files path) (are path)) (parts modelled)

  pub parts_then : (pairs : List Pair) {from mid to : E} → WritesParts choices env pairs from mid
      → WritesParts choices env pairs mid to → WritesParts choices env pairs from to
  parts_then pairs {from} {mid} one two modelled = Run-trans (one modelled)
      (λ files are path. ⊎_elim
      (λ (same : files path ≡ (env.observed mid).disk.files path). ⊎_elim
      (λ (was : (env.observed mid).disk.files path ≡ (env.observed from).disk.files path).
      inl (same ∙ was))
      (λ part. inr (part.0, same ∙ part.1, part.2)) ((one modelled).has path))
      (λ part. inr part) (are path))
      (two modelled)

  -- a file grew by bytes that make it a part of a table
  pub file_parts : (pairs : List Pair) {from : Opened E F} {to : E} (was : File)
      (bytes : List ℕ) → (IsTrue env.models_disk → opened_file env from ≡ Some was)
      → IsWhole choices (Contains pairs) (bytes_of was ++ bytes)
      → ChangesOneFile env (env.name_of from.file) from.env to → GrowsBy env from bytes to
      → WritesParts choices env pairs from.env to
  file_parts pairs {from} {to} was bytes there whole changes grows modelled =
      let name = env.name_of from.file in
      Run-mono (λ files both path. by path files both (bytes_eq name path) refl)
      (run_both (changes.run modelled) (grows modelled was (there modelled)))
    where
      by : (path : List ℕ) (files : Files)
          → SameBut (env.name_of from.file) (env.observed from.env).disk.files files
          × HasPrefixOf (bytes_of was ++ bytes) (files (env.name_of from.file))
          → (b : Bool) → bytes_eq (env.name_of from.file) path ≡ b
          → IsSameOrPart choices (Contains pairs) ((env.observed from.env).disk.files path)
          (files path)
      by path files both false apart = inl (both.0 path apart)
      by path files both true same =
          let is = (bytes_decides (env.name_of from.file) path).0 same in
          inr (
            both.1.0,
            ap files (sym is) ∙ both.1.1,
            (bytes_of was ++ bytes, both.1.2, both.1.3, whole),
          )

  -- an empty file is made for the table of a new builder
  pub created_parts : (pairs : List Pair) {T : Type 0} {result : Result T Status}
      (path : List ℕ) {from mid : E} {core : TableBuilt C FP}
      → IsNewBuilder order filters choices.cmp choices.policy choices.id choices.block_size
      choices.restarts core
      → ChangesFiles {T = T} env.models_disk (emptied path) (BeforeOrAfter (emptied path))
      (env.observed from) (env.observed mid) result
      → WritesParts choices env pairs from mid
  created_parts pairs path {from = from} {core = core} is_new opening modelled =
      Run-mono (λ files. ⊎_elim
      (λ (same : files ≡ (env.observed from).disk.files).
      λ other. inl (ap (λ (f : Files). f other) same))
      (λ (is : files ≡ emptied path (env.observed from).disk.files).
      λ other. by other files is (bytes_eq path other) refl))
      (Run-call modelled opening)
    where
      empty : IsTablePart choices (Contains pairs) []
      empty = part_so choices (λ pair there. absurd (in_none pair there)) [] (
        [],
        [],
        refl,
        taken_whole choices is_new
            (HasTaken-none choices.format.codings puts_all core [] is_new.unbroken),
      )

      by : (other : List ℕ) (files : Files)
          → files ≡ emptied path (env.observed from).disk.files → (b : Bool)
          → bytes_eq path other ≡ b
          → IsSameOrPart choices (Contains pairs) ((env.observed from).disk.files other)
          (files other)
      by other files is false apart =
          inl (ap (λ (f : Files). f other) is
          ∙ at_other path (Some (kept_file [])) (env.observed from).disk.files other apart)
      by other files is true same = inr (
        kept_file [],
        ap files (sym ((bytes_decides path other).0 same)) ∙ ap (λ (f : Files). f path) is
            ∙ at_same path (Some (kept_file [])) (env.observed from).disk.files,
        empty,
      )

  -- a table is begun: its file is made, and its first pair is added or not
  module _ {X : Type 0} {x : X} {path : List ℕ} {from mid : E} {file : F}
      {core made : TableBuilt C FP} (pair : Pair)
      (is_new : IsNewBuilder order filters choices.cmp choices.policy choices.id
      choices.block_size choices.restarts core) (made_is : made ≡ core)
      (opening : ChangesFiles {T = X} env.models_disk (emptied path)
      (BeforeOrAfter (emptied path)) (env.observed from) (env.observed mid) (Ok x))
      (named : IsTrue env.models_disk → env.name_of file ≡ path) where
    start : IsNewBuilder order filters choices.cmp choices.policy choices.id choices.block_size
        choices.restarts made
    start = subst (IsNewBuilder order filters choices.cmp choices.policy choices.id
        choices.block_size choices.restarts) (sym made_is) is_new

    begun_then : {to : E} → WritesParts choices env (pair ∷ []) mid to
        → WritesParts choices env (pair ∷ []) from to
    begun_then = parts_then (pair ∷ []) (created_parts (pair ∷ []) path start opening)

    pub begun_left : {to : E}
        → LeavesPart env (MayPut order filters choices.format.codings made) (opened mid file) to
        → ChangesOneFile env (env.name_of file) mid to
        → WritesParts choices env (pair ∷ []) from to
    begun_left left changes = begun_then
        (parts_so [] (pair ∷ []) (λ other there. absurd (in_none other there))
        (file_parts [] {from = opened mid file} (kept_file []) left.bytes
        (opened_is env opening named)
        (left_whole choices start
        (HasTaken-none choices.format.codings puts_all made [] start.unbroken) left.bytes left.may)
        changes left.grows))

    pub begun_added : {to : E} {after : F} {new : TableBuilt C FP}
        → AddsToFile order filters choices.format.codings env made (opened mid file) pair new
        (opened to after)
        → KeepsChoices made new → WritesParts choices env (pair ∷ []) from to
    begun_added adds kept = begun_then (file_parts (pair ∷ []) {from = opened mid file}
        (kept_file []) adds.bytes (opened_is env opening named)
        (taken_whole choices start (taken_added choices.format.codings env
        (HasTaken-none choices.format.codings puts_all made [] start.unbroken) adds kept))
        (longer_changes env adds.longer) (grows_longer env adds.longer))

-- a call on a file that was made fails
pub created_stops : {E F : Type 0} (env : EnvGhosts E F) {X : Type 0} {x : X} {path : List ℕ}
    {from mid : E} {file : F} {Own : Status → Type 0} {status : Status} {to : E}
    → ChangesFiles {T = X} env.models_disk (emptied path) (BeforeOrAfter (emptied path))
    (env.observed from) (env.observed mid) (Ok x)
    → (IsTrue env.models_disk → env.name_of file ≡ path)
    → (IsThere env (opened mid file) → StopsWriting env Own (opened mid file) status to)
    → StopsWriting env Own (opened mid file) status to
created_stops env opening named stops =
    stops (λ modelled. (kept_file [], opened_is env opening named modelled))
