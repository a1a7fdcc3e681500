use Rattle.std.proofs.Common.{◌≡◌, ◌≤◌, length, true, false, arith}
use Rattle.std.proofs.lemmas.List.{take_rest}
use Rattle.leveldb_env.proofs.FilterBlockLemmas.{begins_elsewhere, begins_here, falls, rise_on, rise_back, rise_end}
use Rattle.leveldb_env.proofs.filter_block.rise_from_zero.Goals as goal

pub returns-then-read_u32-ne0 : goal.returns-then-read_u32-ne0
returns-then-read_u32-ne0 c = (
  λ e. let no : false ≡ true = e in cc,
  λ h. absurd (begins_elsewhere c.args.bytes.now c.read_u32.result c.requires c.read_u32.ensures c.if-read_u32-ne0.true h.0),
)

pub returns-then-place-last : goal.returns-then-place-last
returns-then-place-last c =
    let left = c.loop-left.left.now in (
      λ e. let no : false ≡ true = e in cc,
      λ h. absurd (falls c.loop-left.last c.read_u32-place.result left (omega arith) c.read_u32-place.ensures c.if-place-last.true (c.loop-left.invariant.0 h.1)),
    )

pub loop-left-preserved : goal.loop-left-preserved
loop-left-preserved c =
    let left = c.loop-left.left.now in
    let n = c.read_u32-place.result in
    let long : 4 ≤ length left = omega arith in
    let read = c.read_u32-place.ensures in
    let up = c.if-place-last.false in
    let on = c.loop-left.invariant in
    rw take_rest (
      λ h. rise_on c.loop-left.last n left long read (on.0 h),
      λ h. on.1 (rise_back c.loop-left.last n left long read up h),
    )

pub returns : goal.returns
returns c =
    let short = rise_end c.loop-left.last c.loop-left.left.now (omega arith) in (
      λ _. (begins_here c.args.bytes.now c.read_u32.result c.requires c.read_u32.ensures (omega arith), c.loop-left.invariant.1 short),
      λ _. let yes : true ≡ true = cc in yes,
    )
