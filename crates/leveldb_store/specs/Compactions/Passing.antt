-- What a merge remembers of the entry just before, whether it stayed or went.
use Rattle.std.specs.Prelude.{◌≡◌, Bool, true, false, nat_lt, if◌then◌else◌, List, ℕ, Option, None, Some}
use Rattle.std.specs.Str.{bytes_eq}
use Rattle.std.specs.declared.cmp.Ordering.{Ordering}
use Rattle.std.specs.declared.cmp.Ordering.TheVariants.{Equal, Greater, Less}
use Rattle.leveldb_base.specs.History.{Entry}
use Rattle.leveldb_store.specs.declared.passing.Passing.{Passing}

-- this entry was just before, or none was
abbrev pub IsJustBefore : Passing → Option Entry → Type 0
IsJustBefore passing None = passing.sequence ≡ None
IsJustBefore passing (Some entry) =
    (passing.sequence ≡ Some entry.sequence) × (passing.user.items ≡ entry.key)

-- the number of the entry just before, where it is of this user key
abbrev pub number_of : Option Entry → List ℕ → Option ℕ
number_of None user = None
number_of (Some entry) user = if bytes_eq entry.key user then Some entry.sequence else None

-- by how their user keys are ordered, an entry of the second number may come after one of the first
abbrev pub may_come : Ordering → ℕ → ℕ → Bool
may_come Less newer sequence = true
may_come Equal newer sequence = nat_lt sequence newer
may_come Greater newer sequence = false

-- an entry may come after the one just before: its user key is after that one's, or it is an older
-- entry of the same
abbrev pub may_follow : (List ℕ → List ℕ → Ordering) → Option Entry → Entry → Bool
may_follow cmp None entry = true
may_follow cmp (Some before) entry =
    may_come (cmp before.key entry.key) before.sequence entry.sequence
