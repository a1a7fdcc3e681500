use Rattle.std.proofs.Common.{◌≡◌, ◌∙◌, ◌-◌, ap, sym, length, take, drop, arith, length-drop}
use Rattle.std.proofs.lemmas.List.{take_all}
use Rattle.std.specs.Str.{bytes_eq}
use Rattle.leveldb_base.proofs.OrderLemmas.{bytes_same, same_bytes}
use Rattle.leveldb_base.specs.Crc.{crc_of, masked}
use Rattle.leveldb_base.specs.Varint.{little}
use Rattle.leveldb_mem.proofs.log.reader.has_right_checksum.Goals as goal

pub returns : goal.returns
returns c =
    let front = take 4 c.args.fragment.now in
    let rest = drop 6 c.args.fragment.now in
    let sum = little 4 (masked (crc_of rest)) in
    let rest_is : take (length c.args.fragment.now - 6) rest ≡ rest = take_all (length c.args.fragment.now - 6) rest (omega (arith, length-drop 6 c.args.fragment.now)) in
    let sum_is : c.to_le_bytes-sum.result ≡ sum = c.to_le_bytes-sum.ensures ∙ ap (little 4) (c.mask_crc.ensures.kept ∙ ap masked (c.crc32.ensures.sum ∙ ap crc_of rest_is)) in
    let equal : c.eq.result ≡ bytes_eq front sum = c.eq.ensures ∙ ap (bytes_eq front) sum_is in
    (λ is. same_bytes front sum (sym equal ∙ is), λ same. equal ∙ bytes_same front sum same)
