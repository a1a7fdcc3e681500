use Rattle.std.proofs.Common.{◌≡◌, ℕ, List, ◌++◌, length, drop, Some, sym, ◌∙◌, ap}
use Rattle.leveldb_base.specs.Varint.{varint, ReadsVarint}
use Rattle.leveldb_base.proofs.VarintLemmas.{read_number, one_number}
use Rattle.leveldb_base.proofs.key_types.front_len.Goals as goal

-- the number that was read is the only one that stands in front
only_number : (bytes : List ℕ) (n used : ℕ) → ReadsVarint 64 bytes (Some (n, used)) → (m : ℕ) (rest : List ℕ) → bytes ≡ varint m ++ rest → ◌≡◌ {A = ℕ × ℕ} (n, used) (m, length (varint m))
only_number bytes n used read m rest e =
    let front = read_number 64 bytes n used read in
    let same = (one_number n m (drop used bytes) rest (sym front.1 ∙ e)).0 in
    let size : ℕ → ℕ × ℕ = λ k. (n, k) in
    let number : ℕ → ℕ × ℕ = λ k. (k, length (varint k)) in
    ap size front.0 ∙ ap number same

pub returns : goal.returns
returns c = only_number c.args.bytes.now c.in-Some.n c.in-Some.used c.in-Some.ensures
