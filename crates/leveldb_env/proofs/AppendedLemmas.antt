-- Calls that change files, after which what was appended to each file are bytes as before.
use Rattle.std.proofs.Common.{◌≡◌, ◌++◌, ◌<◌, ◌≤◌, ◌∙◌, ◌⊎◌, inl, inr, ⊎_elim, ℕ, zero, suc, Bool, true, false, List, [], ◌∷◌, Option, None, Some, arith, refl, subst, sym, take}
use Rattle.std.proofs.lemmas.Bool.{cases_lt}
use Rattle.std.proofs.lemmas.List.{get_or-take, get_or_past, length-take}
use Rattle.std.specs.Cmp.Lexicographic.{bytes_decides}
use Rattle.std.specs.Option.{option_map}
use Rattle.std.specs.Str.{bytes_eq}
use Rattle.leveldb_env.proofs.EnvLemmas.{at_other, at_same}
use Rattle.leveldb_env.specs.Env.{AppendedAreBytes, AreBytes, BeforeOrAfter, File, Files, PrefixAppended, deleted, emptied, file_kept, kept_file, longer_file, moved, renamed, synced, with_file}

-- ---- bytes

pub no_bytes : AreBytes []
no_bytes i = omega arith

-- bytes after bytes
pub append_bytes : (these those : List ℕ) → AreBytes these → AreBytes those → AreBytes (these ++ those)
append_bytes [] those are more i = more i
append_bytes (b ∷ these) those are more zero = are zero
append_bytes (b ∷ these) those are more (suc i) =
    append_bytes these those (λ k. are (suc k)) more i

-- the first of some bytes are bytes
pub bytes_take : (n : ℕ) (bytes : List ℕ) → AreBytes bytes → AreBytes (take n bytes)
bytes_take n bytes are i = ⊎_elim
    (λ (inside : i < n). omega (arith, are i, get_or-take n bytes i 0 inside))
    (λ (past : n ≤ i). omega
    (arith, get_or_past (take n bytes) i 0 (omega (arith, past, length-take n bytes))))
    (cases_lt i n)

-- ---- a file

-- what was appended to a file, where there is one, are bytes
abbrev pub Fine : Option File → Type 0
Fine file = (f : File) → file ≡ Some f → AreBytes f.since

same_file : (file other : File) → Some file ≡ Some other → file ≡ other
same_file file other is = cc

pub fine_kept : (bytes : List ℕ) → Fine (Some (kept_file bytes))
fine_kept bytes f is =
    subst (λ (x : File). AreBytes x.since) (same_file (kept_file bytes) f is) no_bytes

pub fine_longer : (bytes : List ℕ) → AreBytes bytes → (file : Option File) → Fine file
    → Fine (option_map (longer_file bytes) file)
fine_longer bytes are None fine = λ f is. absurd cc
fine_longer bytes are (Some file) fine = λ f is.
    subst (λ (x : File). AreBytes x.since) (same_file (longer_file bytes file) f is)
    (append_bytes file.since bytes (fine file refl) are)

pub fine_synced : (file : Option File) → Fine (option_map file_kept file)
fine_synced None = λ f is. absurd cc
fine_synced (Some file) = fine_kept (file.kept ++ file.since)

pub fine_none : Fine None
fine_none f is = absurd cc

-- ---- all files

-- one file more, or another one
pub with_fine : (name : List ℕ) (file : Option File) (files : Files) → AppendedAreBytes files
    → Fine file → AppendedAreBytes (with_file name file files)
with_fine name file files bytes fine other f is = by (bytes_eq name other) refl
  where
    by : (b : Bool) → bytes_eq name other ≡ b → AreBytes f.since
    by true e =
        fine f
        (sym (at_same name file files)
        ∙ subst (λ p. with_file name file files p ≡ Some f) (sym ((bytes_decides name other).0 e))
        is)
    by false e = bytes other f (sym (at_other name file files other e) ∙ is)

-- a file is renamed
pub renamed_fine : (from to : List ℕ) (files : Files) → AppendedAreBytes files
    → AppendedAreBytes (renamed from to files)
renamed_fine from to files bytes = by (files from) (bytes from)
  where
    by : (file : Option File) → Fine file → AppendedAreBytes (moved from to files file)
    by None fine = bytes
    by (Some file) fine =
        with_fine to (Some file) (deleted from files) (with_fine from None files bytes fine_none)
        fine

-- what holds before a change that is done at once, or not at all, and after it
fine_either : (files other now : Files) → (now ≡ files) ⊎ (now ≡ other) → AppendedAreBytes files
    → AppendedAreBytes other → AppendedAreBytes now
fine_either files other now (inl is) before after = subst AppendedAreBytes (sym is) before
fine_either files other now (inr is) before after = subst AppendedAreBytes (sym is) after

-- ---- the calls by which a file is made and renamed

pub emptied_bytes : (name : List ℕ) (files now : Files) → BeforeOrAfter (emptied name) files now
    → AppendedAreBytes files → AppendedAreBytes now
emptied_bytes name files now passes bytes = fine_either files (emptied name files) now passes bytes
    (with_fine name (Some (kept_file [])) files bytes (fine_kept []))

pub appended_bytes : (name more : List ℕ) → AreBytes more → (files now : Files)
    → PrefixAppended name more files now → AppendedAreBytes files → AppendedAreBytes now
appended_bytes name more are files now (inl is) bytes = subst AppendedAreBytes (sym is) bytes
appended_bytes name more are files now (inr part) bytes = subst AppendedAreBytes (sym part.1)
    (with_fine name (option_map (longer_file (take part.0 more)) (files name)) files bytes
    (fine_longer (take part.0 more) (bytes_take part.0 more are) (files name) (bytes name)))

pub synced_bytes : (name : List ℕ) (files now : Files) → BeforeOrAfter (synced name) files now
    → AppendedAreBytes files → AppendedAreBytes now
synced_bytes name files now passes bytes = fine_either files (synced name files) now passes bytes
    (with_fine name (option_map file_kept (files name)) files bytes (fine_synced (files name)))

pub renamed_bytes : (from to : List ℕ) (files now : Files)
    → BeforeOrAfter (renamed from to) files now → AppendedAreBytes files → AppendedAreBytes now
renamed_bytes from to files now passes bytes =
    fine_either files (renamed from to files) now passes bytes (renamed_fine from to files bytes)
