-- Each handle has one encoding, none is a prefix of another's, and how long they are.
use Rattle.std.proofs.Common.{◌≡◌, ℕ, ◌≤◌, List, ◌++◌, length, drop, Option, None, Some, refl, sym, ◌∙◌, ap, arith, append_assoc, length-append, ◌+◌}
use Rattle.leveldb_base.specs.Varint.{varint, ReadsVarint}
use Rattle.leveldb_base.proofs.VarintLemmas.{one_number, length-varint_64, length-varint-pos, read_number}
use Rattle.leveldb_base.specs.BlockHandle.{Handle, HandleFits, handle_bytes, ReadsHandle}
use Rattle.std.proofs.lemmas.List.{drop-drop}

-- ---- one encoding

-- a handle of two numbers
make : ℕ → ℕ → Handle
make offset size = record { offset = offset; size = size }

-- a handle at the front of some bytes, and what follows
pub one_handle : (g h : Handle) (x y : List ℕ) → handle_bytes g ++ x ≡ handle_bytes h ++ y → (g ≡ h) × (x ≡ y)
unfolding make
one_handle g h x y e =
    let first = one_number g.offset h.offset (varint g.size ++ x) (varint h.size ++ y)
    (sym (append_assoc (varint g.offset) (varint g.size) x) ∙ e ∙ append_assoc (varint h.offset) (varint h.size) y) in
    let second = one_number g.size h.size x y first.1 in
    (ap (λ n. make n g.size) first.0 ∙ ap (λ n. make h.offset n) second.0, second.1)

-- a handle's two numbers take 2 to 20 bytes
pub length-handle_bytes : (h : Handle) → HandleFits h → length (handle_bytes h) ≤ 20
length-handle_bytes h fits =
    let offset = length-varint_64 h.offset fits.offset in
    let size = length-varint_64 h.size fits.size in
    simp length-append (omega (arith, offset, size))

pub length-handle_bytes-ge : (h : Handle) → 2 ≤ length (handle_bytes h)
length-handle_bytes-ge h =
    let offset = length-varint-pos h.offset in
    let size = length-varint-pos h.size in
    simp length-append (omega (arith, offset, size))

-- how long handles are, for tactics
pub ruleset handle_lengths = (length-handle_bytes, length-handle_bytes-ge)

-- a handle that was written is read
pub read_handle : (h : Handle) (rest : List ℕ) (r : Option (Handle × ℕ)) → HandleFits h → ReadsHandle (handle_bytes h ++ rest) r → r ≡ Some (h, length (handle_bytes h))
read_handle h rest None fits f = absurd (f h rest fits refl)
read_handle h rest (Some (g, used)) fits f =
    let same = one_handle g h (drop used (handle_bytes h ++ rest)) rest (sym f.2) in
    let handle = same.0 in
    let count = f.1 ∙ ap (λ z. length (handle_bytes z)) handle in
    cc

-- ---- what reading a handle's two numbers, one after the other, says of the handle

-- both numbers are there
pub reads_handle : (bytes behind : List ℕ) (h : Handle) (used more : ℕ) → behind ≡ drop used bytes
    → ReadsVarint 64 bytes (Some (h.offset, used)) → ReadsVarint 64 behind (Some (h.size, more)) → ReadsHandle bytes (Some (h, used + more))
reads_handle bytes behind h used more e f g =
    let first = read_number 64 bytes h.offset used f in
    let second = read_number 64 behind h.size more g in
    let rest : drop more behind ≡ drop (used + more) bytes = ap (drop more) e ∙ drop-drop more used bytes in
    let whole : bytes ≡ varint h.offset ++ (varint h.size ++ drop (used + more) bytes) =
    first.1 ∙ ap (λ z. varint h.offset ++ z) (sym e ∙ second.1 ∙ ap (λ z. varint h.size ++ z) rest) in
    (record { offset = f.0; size = g.0 }, simp length-append (cc), whole ∙ sym (append_assoc (varint h.offset) (varint h.size) (drop (used + more) bytes)))

-- there is no second number
pub reads_no_size : (bytes behind : List ℕ) (offset used : ℕ) → behind ≡ drop used bytes → ReadsVarint 64 bytes (Some (offset, used)) → ReadsVarint 64 behind None
    → ReadsHandle bytes None
reads_no_size bytes behind offset used e f g h rest fits spelled =
    let first = read_number 64 bytes offset used f in
    let same = one_number h.offset offset (varint h.size ++ rest) (drop used bytes)
    (sym (append_assoc (varint h.offset) (varint h.size) rest) ∙ sym spelled ∙ first.1) in
    g h.size rest fits.size (e ∙ sym same.1)
