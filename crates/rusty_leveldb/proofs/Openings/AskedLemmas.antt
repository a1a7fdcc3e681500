-- What the options ask for of an opening.
use Rattle.std.proofs.Common.{◌≡◌, ℕ, Bool, true, false, List, refl, ap, le-leb, leb-true, IsTrue}
use Rattle.std.specs.Prelude.{◌↔◌, ◌&&◌, ◌^◌, nat_le}
use Rattle.leveldb_env.specs.Options.{Boxed, OptionsOf, IsSizeWithin, AreWithinLimits}
use Rattle.rusty_leveldb.specs.Machines.State.{Opening}
use Rattle.rusty_leveldb.specs.Engines.Engine.{IsStoreName, IsOpening, is_size_within, are_within_limits}

-- what an opening has of what is asked: all but that its name is a store's, too, where it fits
pub record IsAsked (name : List ℕ) (wanted opening : Opening) : Type 0 where
  pub create : opening.create_if_missing ≡ wanted.create_if_missing
  pub exists : opening.error_if_exists ≡ wanted.error_if_exists
  pub fits : IsTrue opening.fits ↔ (IsStoreName name × IsTrue wanted.fits)
  pub compresses : opening.compresses ≡ wanted.compresses

pub asked : {name : List ℕ} {wanted opening : Opening} → IsOpening name wanted opening → IsAsked name wanted opening
asked is = record {
  create = ap (λ (o : Opening). o.create_if_missing) is.same;
  exists = ap (λ (o : Opening). o.error_if_exists) is.same;
  fits = is.fits;
  compresses = ap (λ (o : Opening). o.compresses) is.same;
}

-- ---- both of two

pub and_both : (a b : Bool) → IsTrue (a && b) → IsTrue a × IsTrue b
and_both true b is = (refl, is)
and_both false b is = let never : false ≡ true = is in absurd (cc)

pub and_true : (a b : Bool) → IsTrue a → IsTrue b → IsTrue (a && b)
and_true true b is also = also
and_true false b is also = is

-- ---- limits

size_if : (least n : ℕ) → IsTrue (is_size_within least n) → IsSizeWithin least n
size_if least n is =
    let both = and_both (nat_le least n) (nat_le n (2 ^ 30)) is in
    (leb-true least n both.0, leb-true n (2 ^ 30) both.1)

all_of_six : (a b c d e f : Bool) → IsTrue (a && b && c && d && e && f) → IsTrue a × IsTrue b × IsTrue c × IsTrue d × IsTrue e × IsTrue f
all_of_six a b c d e f is =
    let five = and_both (a && b && c && d && e) f is in
    let four = and_both (a && b && c && d) e five.0 in
    let three = and_both (a && b && c) d four.0 in
    let two = and_both (a && b) c three.0 in
    let one = and_both a b two.0 in
    (one.0, one.1, two.1, three.1, four.1, five.1)

pub within_if : {C FP : Type 0} {B : Boxed} (options : OptionsOf C FP B) → IsTrue (are_within_limits options) → AreWithinLimits options
within_if options is =
    let all = all_of_six (is_size_within 1 options.write_buffer_size) (is_size_within 11 options.max_open_files) (is_size_within 1 options.max_file_size) (is_size_within 1 options.block_size) (is_size_within 1 options.block_restart_interval)
    (is_size_within options.block_size options.block_cache_capacity_bytes) is in
    record {
      write_buffer = size_if 1 options.write_buffer_size all.0;
      open_files = size_if 11 options.max_open_files all.1;
      file = size_if 1 options.max_file_size all.2;
      block = size_if 1 options.block_size all.3;
      restart_interval = size_if 1 options.block_restart_interval all.4;
      block_cache = size_if options.block_size options.block_cache_capacity_bytes all.5;
    }

size_is : (least n : ℕ) → IsSizeWithin least n → IsTrue (is_size_within least n)
size_is least n is = and_true (nat_le least n) (nat_le n (2 ^ 30)) (le-leb least n is.0) (le-leb n (2 ^ 30) is.1)

six_of_six : (a b c d e f : Bool) → IsTrue a → IsTrue b → IsTrue c → IsTrue d → IsTrue e → IsTrue f → IsTrue (a && b && c && d && e && f)
six_of_six a b c d e f first second third fourth fifth sixth = and_true (a && b && c && d && e) f (and_true (a && b && c && d) e (and_true (a && b && c) d
    (and_true (a && b) c (and_true a b first second) third) fourth) fifth) sixth

pub within_is : {C FP : Type 0} {B : Boxed} (options : OptionsOf C FP B) → AreWithinLimits options → IsTrue (are_within_limits options)
within_is options is = six_of_six (is_size_within 1 options.write_buffer_size) (is_size_within 11 options.max_open_files) (is_size_within 1 options.max_file_size) (is_size_within 1 options.block_size) (is_size_within 1 options.block_restart_interval)
    (is_size_within options.block_size options.block_cache_capacity_bytes)
    (size_is 1 options.write_buffer_size is.write_buffer) (size_is 11 options.max_open_files is.open_files) (size_is 1 options.max_file_size is.file) (size_is 1 options.block_size is.block) (size_is 1 options.block_restart_interval is.restart_interval)
    (size_is options.block_size options.block_cache_capacity_bytes is.block_cache)
