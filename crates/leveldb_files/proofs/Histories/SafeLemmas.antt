-- Laws of safety that hold however the files are read.
use Rattle.leveldb_base.specs.History.{History}
use Rattle.leveldb_env.proofs.EnvLemmas.{FileCrashesTo-kept, at_other, at_same, with_file-itself, with_file-twice}
use Rattle.leveldb_env.specs.Env.{AreBytes, File, FileCrashesTo, Files, FilesCrashTo, SameBut, bytes_of, file_kept, kept_file, synced, with_file}
use Rattle.leveldb_mem.proofs.LawsLemmas.{cut_is_honest}
use Rattle.leveldb_mem.specs.Log.{HonestTail, log_block_size}
use Rattle.leveldb_files.specs.Stores.Contents.{Contents, Store}
use Rattle.leveldb_files.specs.Histories.Holds.{IsHonest, IsSafe, MatchesHistory}
use Rattle.leveldb_files.specs.Stores.Paths.{IsJournal}
use Rattle.std.proofs.Common.{◌++◌, ◌∙◌, ◌≡◌, ◌≤◌, Bool, List, None, Option, Some, [], ap, append-nil, append_assoc, arith, false, length-append, refl, subst, sym, true, ℕ}
use Rattle.std.proofs.lemmas.List.{take-append-le}
use Rattle.std.specs.Cmp.Lexicographic.{bytes_decides}
use Rattle.std.specs.Option.{option_map}
use Rattle.std.specs.Str.{bytes_eq}

pub some_is : {A : Type 0} (a b : A) → Some a ≡ Some b → a ≡ b
some_is a b e = ap (λ o. elim o [ Some x ↦ x | None ↦ a ]) e

-- ---- a crash of one file

-- a crash left no fragment in it that was never written
abbrev pub Honest : Option File → Option File → Type 0
Honest file left = (was is : File) → file ≡ Some was → left ≡ Some is
    → HonestTail log_block_size (bytes_of was) (bytes_of is)

-- a prefix of the file's bytes is honest
pub front_honest : (file : File) (front rest : List ℕ) → file.since ≡ front ++ rest
    → Honest (Some file) (Some (kept_file (file.kept ++ front)))
front_honest file front rest e was is same_was same_is =
    let whole : ((file.kept ++ front) ++ []) ++ rest
    ≡ bytes_of file = ap (λ b. b ++ rest) (append-nil (file.kept ++ front))
    ∙ append_assoc file.kept front rest ∙ ap (λ b. file.kept ++ b) (sym e) in
    let here : HonestTail log_block_size (bytes_of file) ((file.kept ++ front) ++ []) = subst
    (λ b. HonestTail log_block_size b ((file.kept ++ front) ++ [])) whole
    (cut_is_honest log_block_size ((file.kept ++ front) ++ []) rest) in
    subst (λ f. HonestTail log_block_size (bytes_of f) (bytes_of is)) (some_is file was same_was)
    (subst (λ f. HonestTail log_block_size (bytes_of file) (bytes_of f))
    (some_is (kept_file (file.kept ++ front)) is same_is) here)

-- nothing of what was appended since is left
abbrev pub cut_off : Option File → Option File
cut_off None = None
cut_off (Some file) = Some (kept_file (file.kept ++ []))

no_bytes : AreBytes []
no_bytes i = omega arith

pub cut_leaves : (file : Option File) → FileCrashesTo file (cut_off file)
cut_leaves None = refl
cut_leaves (Some file) = ([], no_bytes, omega arith, refl)

pub cut_honest : (file : Option File) → Honest file (cut_off file)
cut_honest None = λ was is same_was same_is. absurd (cc)
cut_honest (Some file) = front_honest file [] file.since refl

-- ---- a crash of files that differ at one name

pub by_name : (P : List ℕ → Type 0) (name other : List ℕ) → P name
    → (bytes_eq name other ≡ false → P other) → P other
by_name P name other here elsewhere = by (bytes_eq name other) refl
  where
    by : (b : Bool) → bytes_eq name other ≡ b → P other
    by true e = subst P ((bytes_decides name other).0 e) here
    by false e = elsewhere e

-- where files differ at one name, what a crash leaves of the new ones is, with something else under
-- that name, what it leaves of the old ones
pub leaves_with : (name : List ℕ) (old new left : Files) (file : Option File) → SameBut name old new
    → FilesCrashTo new left → FileCrashesTo (old name) file
    → FilesCrashTo old (with_file name file left)
leaves_with name old new left file same leaves here other =
    by_name (λ q. FileCrashesTo (old q) (with_file name file left q)) name other
    (subst (FileCrashesTo (old name)) (sym (at_same name file left)) here)
    (λ apart.
    subst (FileCrashesTo (old other)) (sym (at_other name file left other apart))
    (subst (λ f. FileCrashesTo f (left other)) (same other apart) (leaves other)))

pub honest_with : (store name : List ℕ) (old new left : Files) (file : Option File)
    → SameBut name old new → IsHonest store new left → Honest (old name) file
    → IsHonest store old (with_file name file left)
honest_with store name old new left file same honest here other =
    by_name
    (λ q. (was is : File) → IsJournal store q → old q ≡ Some was
    → with_file name file left q ≡ Some is → HonestTail log_block_size (bytes_of was) (bytes_of is))
    name other
    (λ was is journal same_was same_is.
    here was is same_was (sym (at_same name file left) ∙ same_is))
    (λ apart was is journal same_was same_is.
    honest other was is journal (same other apart ∙ same_was)
    (sym (at_other name file left other apart) ∙ same_is))

-- what is under the name comes back
pub put_back : (name : List ℕ) (file : Option File) (left : Files)
    → with_file name (left name) (with_file name file left) ≡ left
put_back name file left = with_file-twice name (left name) file left ∙ with_file-itself name left

-- ---- a sync

pub leaves_of_synced : (name : List ℕ) (files left : Files)
    → ((file : File) → files name ≡ Some file → AreBytes file.since)
    → FilesCrashTo (synced name files) left → FilesCrashTo files left
leaves_of_synced name files left bytes leaves other =
    by_name (λ q. FileCrashesTo (files q) (left q)) name other
    (here (files name) refl
    (subst (λ f. FileCrashesTo f (left name))
    (at_same name (option_map file_kept (files name)) files) (leaves name)))
    (λ apart.
    subst (λ f. FileCrashesTo f (left other))
    (at_other name (option_map file_kept (files name)) files other apart) (leaves other))
  where
    here : (file : Option File) → files name ≡ file
        → FileCrashesTo (option_map file_kept file) (left name) → FileCrashesTo file (left name)
    here None is l = l
    here (Some file) is l =
        (file.since, bytes file is, omega arith, FileCrashesTo-kept (bytes_of file) (left name) l)

pub honest_of_synced : (store name : List ℕ) (files left : Files)
    → IsHonest store (synced name files) left → IsHonest store files left
honest_of_synced store name files left honest other was is journal same_was same_is =
    by_name
    (λ q. IsJournal store q → files q ≡ Some was → left q ≡ Some is
    → HonestTail log_block_size (bytes_of was) (bytes_of is)) name other
    (λ j there found.
    subst (λ b. HonestTail log_block_size b (bytes_of is)) (append-nil (bytes_of was))
    (honest name (file_kept was) is j
    (at_same name (option_map file_kept (files name)) files
    ∙ ap (option_map file_kept) there) found))
    (λ apart j there found.
    honest other was is j
    (at_other name (option_map file_kept (files name)) files other apart ∙ there) found)
    journal same_was same_is

module _ (store : List ℕ) (reads : Files → Contents → Type 0) where
  -- ---- a greater bound, a longer history, fewer durable batches

  pub matches_more :
      (allowed : Store → Type 0) (bound more : ℕ) (contents : Contents) (history : History)
      → bound ≤ more → MatchesHistory allowed bound contents history
      → MatchesHistory allowed more contents history
  matches_more allowed bound more contents history most t =
      record {
        same = t.same;
        up_to = t.up_to;
        reached = t.reached;
        bounded = omega (arith, most, t.bounded);
        store = t.store;
      }

  pub safe_more :
      (allowed : Store → Type 0) (bound more durable least : ℕ) (history rest : History)
      (files : Files) → bound ≤ more → least ≤ durable
      → IsSafe store reads allowed bound durable history files
      → IsSafe store reads allowed more least (history ++ rest) files
  safe_more allowed bound more durable least history rest files most few safe left leaves honest =
      let c = safe left leaves honest in
      record {
        part = c.part;
        prefix = record {
          count = c.prefix.count;
          enough = omega (arith, few, c.prefix.enough);
          there = omega (arith, c.prefix.there, length-append history rest);
          first = c.prefix.first ∙ sym (take-append-le c.prefix.count history rest c.prefix.there);
        };
        carries = record {
          contents = c.carries.contents;
          read = c.carries.read;
          matches =
              matches_more allowed bound more c.carries.contents c.part most c.carries.matches;
        };
      }

  -- ---- a sync of any file

  pub sync_safe :
      (allowed : Store → Type 0) (bound durable : ℕ) (history : History) (name : List ℕ)
      (files : Files) → ((file : File) → files name ≡ Some file → AreBytes file.since)
      → IsSafe store reads allowed bound durable history files
      → IsSafe store reads allowed bound durable history (synced name files)
  sync_safe allowed bound durable history name files bytes safe left leaves honest =
      safe left (leaves_of_synced name files left bytes leaves)
      (honest_of_synced store name files left honest)

  -- ---- a file that isn't read

  pub unread_safe :
      (allowed : Store → Type 0) (bound durable : ℕ) (history : History) (name : List ℕ)
      (old new : Files) → SameBut name old new
      → ((left : Files) (contents : Contents) (file : Option File) → FilesCrashTo old left
      → IsHonest store old left → FileCrashesTo (new name) file → reads left contents
      → reads (with_file name file left) contents)
      → IsSafe store reads allowed bound durable history old
      → IsSafe store reads allowed bound durable history new
  unread_safe allowed bound durable history name old new same unread safe left leaves honest =
      let before : Files = with_file name (cut_off (old name)) left in
      let b_leaves = leaves_with name old new left (cut_off (old name)) same leaves
      (cut_leaves (old name)) in
      let b_honest = honest_with store name old new left (cut_off (old name)) same honest
      (cut_honest (old name)) in
      let c = safe before b_leaves b_honest in
      record {
        part = c.part;
        prefix = c.prefix;
        carries = record {
          contents = c.carries.contents;
          read = subst (λ f. reads f c.carries.contents) (put_back name (cut_off (old name)) left)
              (unread before c.carries.contents (left name) b_leaves b_honest
              (leaves name) c.carries.read);
          matches = c.carries.matches;
        };
      }
