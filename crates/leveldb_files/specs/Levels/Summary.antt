-- The text that says which files each level has.
use Rattle.std.specs.Prelude.{◌==◌, ◌-◌, ◌^◌, min, ℕ, List, [], ◌∷◌, ◌++◌, codes, flat_map, length, sum_by}
use Rattle.std.specs.Fmt.{decimal}
use Rattle.std.specs.List.{filter}
use Rattle.leveldb_files.specs.Edits.Edit.{NewFile}

-- the files of a level
abbrev pub files_of_level : ℕ → List NewFile → List NewFile
files_of_level level files = filter (λ file. file.level == level) files

-- how many bytes files have together, up to 2^64 - 1
abbrev pub total_size : List NewFile → ℕ
total_size files = min (sum_by (λ file. file.size) files) (2 ^ 64 - 1)

-- a file's number and size
abbrev pub file_text : NewFile → List ℕ
file_text file = codes "(" ++ (decimal file.number
    ++ (codes ", " ++ (decimal file.size ++ codes ")")))

-- these of each file, the first after `lead` and each other after a comma
abbrev pub files_text : List ℕ → List NewFile → List ℕ
files_text lead [] = []
files_text lead (file ∷ files) = lead ++ (file_text file ++ files_text (codes ", ") files)

-- a level, how many files and bytes it has, and the files; nothing where it has none
abbrev pub level_text : ℕ → List NewFile → List ℕ
level_text level [] = []
level_text level (file ∷ files) = codes "level " ++ (decimal level
    ++ (codes ": " ++ (decimal (length (file ∷ files))
    ++ (codes " files, " ++ (decimal (total_size (file ∷ files))
    ++ (codes " bytes ([" ++ (files_text [] (file ∷ files) ++ codes "]); ")))))))

-- the texts of levels
abbrev pub levels_text : List NewFile → List ℕ → List ℕ
levels_text files levels = flat_map (λ level. level_text level (files_of_level level files)) levels

-- the text of all seven levels
abbrev pub summary_text : List NewFile → List ℕ
summary_text files = levels_text files (0 ∷ 1 ∷ 2 ∷ 3 ∷ 4 ∷ 5 ∷ 6 ∷ [])
