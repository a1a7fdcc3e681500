use Rattle.std.proofs.Common.{None, Some, ap, false, rules, subst, sym, true, ◌≡◌, inl, refl, ◌∙◌}
use Rattle.std.proofs.lemmas.Result.{IfOk-from_err}
use Rattle.leveldb_env.specs.contracts.compressor.CompressorListCompressors.TheImpl
use Rattle.leveldb_table.specs.Block.{pairs_of}
use Rattle.leveldb_table.specs.BlockCheck.{key_before}
use Rattle.leveldb_table.specs.ReadableTable.{ForFileOf, LineHolds, TestsByMore}
use Rattle.leveldb_table.proofs.ReadableFileLemmas.{LinesSoFar, so_far_ends, so_far_first, so_far_next, so_far_smaller, so_far_stops}
use Rattle.leveldb_table.proofs.ReadableJudgeLemmas.{line_fails}
use Rattle.leveldb_table.proofs.TableBlockLemmas.{reads_refused, KeepsDisk-refl, KeepsDisk-trans, reads_ok, reads_own, reads_passed}
use Rattle.leveldb_table.proofs.readable.judge.Judge.lines_hold.Goals as goal

pub lines-init : goal.lines-init
lines-init g c =
    so_far_first g.E.Env _ _ _ _ _ _ _ c.iter-lines.result _ (ap (λ block. pairs_of None
    block.entries) c.iter-lines.ensures.block)
    c.in_ok-seek_to_first.ensures.keeps.same_pairs c.in_ok-seek_to_first.ensures.ok

pub lines-smaller : goal.lines-smaller
lines-smaller g c = so_far_smaller g.E.Env _ _ _ _ _ _ _ c.lines.invariant c.advance.new.self
    c.in-Some.ensures c.in_ok-advance.ensures.ok

pub lines-preserved : goal.lines-preserved
lines-preserved g c =
    let codings = (TheImpl.ghosts g.dyn-1).codings c.args.self.now.compressors.now in
    let self = c.args.self.now in
    let key : c.extend_from_slice.new.self.items ≡ c.in-Some.key.now = search rules in
    let holds = subst (λ test. ForFileOf g.E.Env c.lines.env self.file self.size (λ bytes.
    TestsByMore codings (λ Decodes. LineHolds Decodes (g.C.Cmp.accepts self.cmp) (g.C.Cmp.cmp
    self.cmp) bytes
    (key_before c.lines.first c.as_slice.result.now) (c.in-Some.key.now, c.in-Some.value.now))
    test)) c.if-not-branch.false c.in_ok-line_holds.ensures.ok in
    let here = subst (λ before. ForFileOf g.E.Env c.lines.env self.file self.size (λ bytes.
    TestsByMore codings (λ Decodes. LineHolds Decodes (g.C.Cmp.accepts self.cmp) (g.C.Cmp.cmp
    self.cmp) bytes
    (key_before c.lines.first before) (c.in-Some.key.now, c.in-Some.value.now)) true))
    c.as_slice.ensures.value holds in
    subst (λ bytes. LinesSoFar g.E.Env codings (g.C.Cmp.accepts self.cmp) (g.C.Cmp.cmp self.cmp)
    c.args.env.now self.file self.size (pairs_of None c.args.index.now.entries) (Some bytes)
    c.advance.new.self c.line_holds.new.env)
    (sym key)
    (so_far_next g.E.Env _ _ _ _ _ _ _ c.lines.invariant c.in-Some.ensures
    c.in_ok-line_holds.ensures.reads.kept_disk c.in_ok-line_holds.ensures.reads.cause.ok here
    c.in_ok-advance.ensures.keeps.same_pairs c.in_ok-advance.ensures.ok)

pub returns-then-not-branch-clause-ok : goal.returns-then-not-branch-clause-ok
returns-then-not-branch-clause-ok g c =
    let codings = (TheImpl.ghosts g.dyn-1).codings c.args.self.now.compressors.now in
    let self = c.args.self.now in
    let holds = subst (λ test. ForFileOf g.E.Env c.lines.env self.file self.size (λ bytes.
    TestsByMore codings (λ Decodes. LineHolds Decodes (g.C.Cmp.accepts self.cmp) (g.C.Cmp.cmp
    self.cmp) bytes
    (key_before c.lines.first c.as_slice.result.now) (c.in-Some.key.now, c.in-Some.value.now))
    test)) c.if-not-branch.true c.in_ok-line_holds.ensures.ok in
    let here = subst (λ before. ForFileOf g.E.Env c.lines.env self.file self.size (λ bytes.
    TestsByMore codings (λ Decodes. LineHolds Decodes (g.C.Cmp.accepts self.cmp) (g.C.Cmp.cmp
    self.cmp) bytes
    (key_before c.lines.first before) (c.in-Some.key.now, c.in-Some.value.now)) false))
    c.as_slice.ensures.value holds in
    so_far_stops g.E.Env _ _ _ _ _ _ _ c.lines.invariant c.in-Some.ensures here

pub returns-in_err-line_holds-clause-reads : goal.returns-in_err-line_holds-clause-reads
returns-in_err-line_holds-clause-reads g c =
    let codings = (TheImpl.ghosts g.dyn-1).codings c.args.self.now.compressors.now in
    let result = c.from_residual-in_err-line_holds.result in
    line_fails g.E.Env codings _ _ c.args.self.now.file c.args.self.now.size result
    c.lines.invariant c.in-Some.ensures
    (reads_refused g.E.Env result c.from_residual-in_err-line_holds.ensures.1
    c.in_err-line_holds.ensures.reads)

pub returns-clause-ok : goal.returns-clause-ok
returns-clause-ok g c = so_far_ends g.E.Env _ _ _ _ _ _ _ c.lines.invariant c.in_default.ensures

pub returns-in_err-seek_to_first-clause-reads : goal.returns-in_err-seek_to_first-clause-reads
returns-in_err-seek_to_first-clause-reads g c = reads_passed g.E.Env c.from_residual.result (KeepsDisk-refl g.E.Env c.args.env.now) refl c.from_residual.ensures.1 (inl c.in_err-seek_to_first.ensures.cause)

pub returns-in_err-seek_to_first-clause-ok : goal.returns-in_err-seek_to_first-clause-ok
returns-in_err-seek_to_first-clause-ok g c = IfOk-from_err _ _ c.from_residual.ensures.0

pub returns-then-not-branch-clause-reads : goal.returns-then-not-branch-clause-reads
returns-then-not-branch-clause-reads g c =
    let so_far = c.lines.invariant in
    let read = c.in_ok-line_holds.ensures.reads in
    reads_ok g.E.Env (KeepsDisk-trans g.E.Env so_far.kept_disk read.kept_disk) (read.cause.ok ∙ so_far.counted)

pub returns-in_err-line_holds-clause-ok : goal.returns-in_err-line_holds-clause-ok
returns-in_err-line_holds-clause-ok g c = IfOk-from_err _ _ c.from_residual-in_err-line_holds.ensures.0

pub returns-in_err-extend_from_slice-clause-reads : goal.returns-in_err-extend_from_slice-clause-reads
returns-in_err-extend_from_slice-clause-reads g c =
    let so_far = c.lines.invariant in
    let read = c.in_ok-line_holds.ensures.reads in
    reads_own g.E.Env c.from_residual-in_err-extend_from_slice.result (KeepsDisk-trans g.E.Env so_far.kept_disk read.kept_disk) (read.cause.ok ∙ so_far.counted) c.from_residual-in_err-extend_from_slice.ensures.1 (λ status memory. inl memory)

pub returns-in_err-extend_from_slice-clause-ok : goal.returns-in_err-extend_from_slice-clause-ok
returns-in_err-extend_from_slice-clause-ok g c = IfOk-from_err _ _ c.from_residual-in_err-extend_from_slice.ensures.0

pub returns-in_err-advance-clause-reads : goal.returns-in_err-advance-clause-reads
returns-in_err-advance-clause-reads g c =
    let so_far = c.lines.invariant in
    let read = c.in_ok-line_holds.ensures.reads in
    reads_passed g.E.Env c.from_residual-in_err-advance.result (KeepsDisk-trans g.E.Env so_far.kept_disk read.kept_disk) (read.cause.ok ∙ so_far.counted) c.from_residual-in_err-advance.ensures.1 (inl c.in_err-advance.ensures.cause)

pub returns-in_err-advance-clause-ok : goal.returns-in_err-advance-clause-ok
returns-in_err-advance-clause-ok g c = IfOk-from_err _ _ c.from_residual-in_err-advance.ensures.0

pub returns-clause-reads : goal.returns-clause-reads
returns-clause-reads g c = reads_ok g.E.Env c.lines.invariant.kept_disk c.lines.invariant.counted
