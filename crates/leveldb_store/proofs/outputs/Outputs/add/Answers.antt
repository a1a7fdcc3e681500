use Rattle.std.proofs.Common.{◌∙◌, ap, refl, sym}
use Rattle.leveldb_store.proofs.Tables.OutputsLemmas.{pair_added}
use Rattle.leveldb_store.proofs.outputs.Outputs.add.Goals as goal

pub returns : goal.returns
returns g c = record {
  adds = λ store first next tables pairs some have.
      pair_added _ g.E.Env store (c.args.key.now, c.args.value.now) have (sym (ap (λ v. v.unfinished) c.self.view_is) ∙ c.in-Some.is) refl (ap (λ v. v.done) c.self.view_is)
      c.add.ensures.choices c.add.ensures.same.0 c.add.ensures.same.1 c.add.result c.add.ensures.ok c.add.ensures.err c.add.ensures.left;
  ends = ap (λ v. v.ends) c.self.view_is;
}
