-- As many as can be are kept, or one more is.
use Rattle.std.proofs.Common.{◌≡◌, ◌∙◌, ◌<◌, List, ap, arith, length, sym}
use Rattle.leveldb_files.specs.Edits.Edit.{LevelFile}
use Rattle.rusty_leveldb.proofs.Walks.ReadSamplesLemmas.{no_more, one_more, samples_of}
use Rattle.rusty_leveldb.proofs.read_samples.ReadSamples.keep.Goals as goal

pub returns-then-len-eq-MOST_CHARGES-clause-ok : goal.returns-then-len-eq-MOST_CHARGES-clause-ok
returns-then-len-eq-MOST_CHARGES-clause-ok c =
    let it = c.self.inside in
    let full : length it.charges.items ≡ 4096 =
    sym it.charges.ok.0 ∙ sym c.len.ensures ∙ c.if-len-eq-MOST_CHARGES.true in
    rw (← c.self.view_is) (ap (λ (files : List LevelFile). samples_of it.random it.left files)
    (sym (no_more it.charges.items c.args.file full)))

pub returns-clause-ok : goal.returns-clause-ok
returns-clause-ok c =
    let it = c.self.inside in
    let room : length it.charges.items < 4096 =
    omega (arith, c.self.invariant, it.charges.ok.0, c.len.ensures, c.if-len-eq-MOST_CHARGES.false) in
    rw (← c.self.view_is) (ap (λ (files : List LevelFile). samples_of it.random it.left files)
    (c.in_ok-push.ensures.items ∙ sym (one_more it.charges.items c.args.file room)))
