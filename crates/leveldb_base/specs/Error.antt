-- The texts of codes and statuses.
use Rattle.std.specs.Prelude.{◌≡◌, ℕ, List, [], ◌∷◌, ◌++◌, Option, None, Some, codes, string_bytes, String}
use Rattle.std.specs.declared.alloc.Global.{Global}
use Rattle.leveldb_base.specs.declared.error.Status.{Status}
use Rattle.leveldb_base.specs.declared.error.StatusCode.{StatusCode}
use Rattle.leveldb_base.specs.declared.error.StatusCode.TheVariants.{OK, AlreadyExists, Corruption, CompressionError, IOError, InvalidArgument, InvalidData, LockError, NotFound, NotSupported, PermissionDenied, Unknown, OutOfMemory}

-- a code's name
abbrev pub code_text : StatusCode → List ℕ
code_text OK = codes "OK"
code_text AlreadyExists = codes "AlreadyExists"
code_text Corruption = codes "Corruption"
code_text CompressionError = codes "CompressionError"
code_text IOError = codes "IOError"
code_text InvalidArgument = codes "InvalidArgument"
code_text InvalidData = codes "InvalidData"
code_text LockError = codes "LockError"
code_text NotFound = codes "NotFound"
code_text NotSupported = codes "NotSupported"
code_text PermissionDenied = codes "PermissionDenied"
code_text Unknown = codes "Unknown"
code_text OutOfMemory = codes "OutOfMemory"

-- the code's name, and after it the message where there is one
abbrev pub status_text : StatusCode → List ℕ → List ℕ
status_text code [] = code_text code
status_text code (first ∷ others) = code_text code ++ codes ": " ++ (first ∷ others)

-- the text of a status; none is the empty text
abbrev pub text_of : Option (String Global) → List ℕ
text_of None = []
text_of (Some text) = string_bytes text

-- a message before a text
abbrev pub annotated : List ℕ → List ℕ → List ℕ
annotated message text = message ++ (codes ": " ++ text)

-- out of memory, with no text
abbrev pub IsOutOfMemory : Status → Type 0
IsOutOfMemory status = (status.code ≡ OutOfMemory) × (status.err ≡ None)
