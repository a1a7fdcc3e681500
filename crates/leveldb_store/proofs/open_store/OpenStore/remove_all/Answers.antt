use Rattle.std.proofs.Common.{◌≡◌, arith, map, refl, subst, take}
use Rattle.std.specs.Prelude.{string_bytes}
use Rattle.std.proofs.lemmas.List.{length-map, take_all}
use Rattle.leveldb_store.specs.Writing.Switch.{RemovesNames}
use Rattle.leveldb_store.proofs.Keeping.OpenTablesLemmas.{no_removal, removal_then}
use Rattle.leveldb_store.proofs.Keeping.RemoveLemmas.{names_step, no_names}
use Rattle.leveldb_store.proofs.open_store.OpenStore.remove_all.Goals as goal

pub loop-name-init : goal.loop-name-init
loop-name-init g c = record {
  removed = (no_names g.E.Env c.args.self.now.set c.args.self.now.kept_to c.args.env.now, λ modelled name there. refl);
  closes = no_removal g.E.Env c.args.self.now.set c.args.env.now c.args.env.now c.args.tables.now (λ modelled. refl);
}

pub loop-name-preserved : goal.loop-name-preserved
loop-name-preserved g c = record {
  removed = names_step g.E.Env c.args.self.now.set c.args.self.now.kept_to c.args.env.now string_bytes c.args.names.now c.loop-name.name-index c.name-item.result (omega arith) c.name-item.is c.requires.listed
      c.loop-name.first c.loop-name.env c.loop-name.invariant.removed.0 c.loop-name.invariant.removed.1 c.deref.result.now c.deref.ensures c.remove_one.result c.remove_one.new.env c.remove_one.ensures.removes
      c.first_error-first.result c.first_error-first.ensures;
  closes = removal_then g.E.Env c.args.self.now.set c.loop-name.invariant.closes c.remove_one.ensures.closes;
}

pub returns-clause-removes : goal.returns-clause-removes
returns-clause-removes g c =
    let all : take c.loop-name.name-index (map string_bytes c.args.names.now) ≡ map string_bytes c.args.names.now =
    take_all c.loop-name.name-index (map string_bytes c.args.names.now) (simp length-map (omega arith)) in
    subst (λ names. RemovesNames g.E.Env c.args.self.now.set c.args.self.now.kept_to c.args.env.now names c.loop-name.first c.loop-name.env) all c.loop-name.invariant.removed.0
