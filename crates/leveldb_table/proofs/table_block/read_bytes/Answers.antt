use Rattle.std.proofs.Common.{◌≡◌, ◌+◌, ◌-◌, ◌<◌, ◌≤◌, ◌++◌, sym, subst, ℕ, length, take, drop, ◌∙◌, ap, inl, inr, arith, length-append, length-take, length-drop, min, max}
use Rattle.std.proofs.lemmas.List.{length-take-le}
use borrow.Rule.Slice.PartMut.{put_mid}
use Rattle.bytes.specs.Filled.{with_items}
use Rattle.leveldb_env.specs.Env.{ReadsFrom}
use Rattle.leveldb_table.specs.TableBlock.{ForBytesOf}
use Rattle.leveldb_table.proofs.TableBlockLemmas.{cut_after, length-with_items, gathers_none, gathers_more, ends_here, ends_within, FileHas-after, KeepsDisk-trans, reads_ok, reads_own, reads_then, reads_refused}
use Rattle.leveldb_table.proofs.table_block.read_bytes.Goals as goal

pub loop-alloc-init : goal.loop-alloc-init
loop-alloc-init g c = record { gathers = gathers_none g.E.Env c.args.env.now c.args.file.now c.args.offset c.fitting-read.result.items c.fitting-read.ensures.items; fits = omega (arith, ap length c.fitting-read.ensures.items) }

pub returns-in_default-clause-reads : goal.returns-in_default-clause-reads
returns-in_default-clause-reads g c =
    let so_far = c.loop-alloc.invariant.gathers in
    let read = c.loop-alloc.read.items in
    let far = ends_within g.E.Env c.args.env.now c.loop-alloc.env c.args.file.now c.args.offset read so_far c.args.size (omega arith) (λ near. c.in_default.ensures (omega arith)) in
    reads_own g.E.Env c.corruption.result so_far.kept_disk so_far.counted c.corruption.ensures (λ status code. inr (code, far))

pub returns-in_err-reserve-clause-reads : goal.returns-in_err-reserve-clause-reads
returns-in_err-reserve-clause-reads g c =
    let so_far = c.loop-alloc.invariant.gathers in
    reads_own g.E.Env c.from_residual.result so_far.kept_disk so_far.counted c.from_residual.ensures.1 (λ status memory. inl memory)

pub returns-in_err-came-clause-reads : goal.returns-in_err-came-clause-reads
returns-in_err-came-clause-reads g c =
    let so_far = c.loop-alloc.invariant.gathers in
    let call = c.in_err-came.ensures in
    reads_then g.E.Env c.from_residual-in_err-came.result so_far.kept_disk so_far.counted
    (λ status damaged. (damaged.0, λ bytes has. absurd (damaged.1 bytes (FileHas-after g.E.Env so_far.kept_disk has))))
    (reads_refused g.E.Env {T = ℕ} c.from_residual-in_err-came.result c.from_residual-in_err-came.ensures.1 call.reads)

pub returns-then-came-eq0-clause-reads : goal.returns-then-came-eq0-clause-reads
returns-then-came-eq0-clause-reads g c =
    let so_far = c.loop-alloc.invariant.gathers in
    let read = c.loop-alloc.read.items in
    let grown = c.as_mut_slice.result.now in
    let target = c.read_some.new.target in
    let call = c.in_ok-came.ensures in
    let known = c.len-known.result in
    let more = c.min-more.result in
    let known_is : known ≡ length read = omega (arith, c.len-known.ensures) in
    let wide : c.max.result ≡ max known 1048576 = c.max.ensures in
    let least : more ≡ min (c.args.size - known) c.max.result = c.min-more.ensures in
    let len_is : length grown ≡ length c.advance_mut.new.self.items = ap length c.as_mut_slice.ensures.value in
    let grew : length c.advance_mut.new.self.items ≡ known + more = omega (arith, c.advance_mut.ensures.len, ap length c.in_ok-reserve.ensures.items, known_is) in
    let room_is : length target ≡ length (take (length grown - known) (drop known grown)) = c.read_some.auto.target in
    let all : length grown ≡ known + more = len_is ∙ grew in
    let inside : known ≤ length grown = omega (arith, all) in
    let room : length target ≡ length grown - known = room_is ∙ length-take-le (length grown - known) (drop known grown) (omega (arith, length-drop known grown)) in
    let some : 0 < length target = omega (arith, c.loop-alloc-test.true) in
    let none = subst (λ n. ForBytesOf g.E.Env c.loop-alloc.env c.args.file.now (ReadsFrom c.in-Some.next n target)) c.if-came-eq0.true call.bytes in
    let counted = call.reads.cause.ok ∙ so_far.counted in
    let kept_disk = KeepsDisk-trans g.E.Env so_far.kept_disk call.reads.kept_disk in
    let ends = ends_here g.E.Env c.args.env.now c.loop-alloc.env c.args.file.now c.args.offset read so_far c.args.size c.in-Some.next target (omega arith) (omega arith) some none in
    reads_own g.E.Env c.corruption-then-came-eq0.result kept_disk counted c.corruption-then-came-eq0.ensures (λ status code. inr (code, ends))

pub loop-alloc-preserved : goal.loop-alloc-preserved
loop-alloc-preserved g c =
    let so_far = c.loop-alloc.invariant.gathers in
    let read = c.loop-alloc.read.items in
    let grown = c.as_mut_slice.result.now in
    let target = c.read_some.new.target in
    let call = c.in_ok-came.ensures in
    let known = c.len-known.result in
    let more = c.min-more.result in
    let known_is : known ≡ length read = omega (arith, c.len-known.ensures) in
    let wide : c.max.result ≡ max known 1048576 = c.max.ensures in
    let least : more ≡ min (c.args.size - known) c.max.result = c.min-more.ensures in
    let len_is : length grown ≡ length c.advance_mut.new.self.items = ap length c.as_mut_slice.ensures.value in
    let grew : length c.advance_mut.new.self.items ≡ known + more = omega (arith, c.advance_mut.ensures.len, ap length c.in_ok-reserve.ensures.items, known_is) in
    let room_is : length target ≡ length (take (length grown - known) (drop known grown)) = c.read_some.auto.target in
    let all : length grown ≡ known + more = len_is ∙ grew in
    let inside : known ≤ length grown = omega (arith, all) in
    let room : length target ≡ length grown - known = room_is ∙ length-take-le (length grown - known) (drop known grown) (omega (arith, length-drop known grown)) in
    let came = c.in_ok-came.came in
    let fits : came ≤ length target = call.fits in
    let front : take known grown ≡ read =
    ap (take known) c.as_mut_slice.ensures.value ∙ ap (λ n. take n c.advance_mut.new.self.items) (known_is ∙ sym (ap length c.in_ok-reserve.ensures.items)) ∙ c.advance_mut.ensures.front ∙ c.in_ok-reserve.ensures.items in
    let now : c.truncate.new.self.items ≡ read ++ take came target =
    c.truncate.ensures.items ∙ cut_after c.advance_mut.new.self grown target known came c.as_mut_slice.ensures.value inside room fits ∙ ap (λ z. z ++ take came target) front in
    record {
      gathers = gathers_more g.E.Env c.args.env.now c.loop-alloc.env c.args.file.now c.args.offset read so_far c.in-Some.next came target c.truncate.new.self.items (omega arith) fits now call.reads.kept_disk call.reads.cause.ok call.bytes;
      fits = omega (arith, ap length now, length-append read (take came target), length-take came target);
    }

pub loop-alloc-smaller : goal.loop-alloc-smaller
loop-alloc-smaller g c =
    let grown = c.as_mut_slice.result.now in
    let target = c.read_some.new.target in
    let known = c.len-known.result in
    let came = c.in_ok-came.came in
    let filled = c.advance_mut.new.self in
    let held = put_mid known (length grown - known) grown target in
    let known_is : known ≡ length c.loop-alloc.read.items = omega (arith, c.len-known.ensures) in
    let len_is : length grown ≡ length filled.items = ap length c.as_mut_slice.ensures.value in
    let room_is : length target ≡ length (take (length grown - known) (drop known grown)) = c.read_some.auto.target in
    let room : length target ≤ length grown - known = omega (arith, room_is, length-take (length grown - known) (drop known grown)) in
    let inside : known ≤ length grown = omega (arith, len_is, c.advance_mut.ensures.len, ap length c.in_ok-reserve.ensures.items, known_is) in
    let cut : length c.truncate.new.self.items ≡ known + came =
    ap length c.truncate.ensures.items ∙ length-take-le (known + came) (with_items filled held).items (omega (arith, length-with_items filled held, len_is, room, inside, c.in_ok-came.ensures.fits)) in
    omega (arith, c.loop-alloc-test.true, cut, known_is)

pub returns-clause-reads : goal.returns-clause-reads
returns-clause-reads g c = reads_ok g.E.Env c.loop-alloc.invariant.gathers.kept_disk c.loop-alloc.invariant.gathers.counted

pub returns-clause-size : goal.returns-clause-size
returns-clause-size g c = omega arith

pub returns-clause-ok : goal.returns-clause-ok
returns-clause-ok g c = λ bytes has.
    c.loop-alloc.invariant.gathers.bytes bytes has ∙ ap (λ n. take n (drop c.args.offset bytes)) (let size : length c.loop-alloc.read.items ≡ c.args.size = omega arith in size)
