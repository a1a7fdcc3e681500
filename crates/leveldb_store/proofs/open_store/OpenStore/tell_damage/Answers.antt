use Rattle.std.proofs.Common.{◌≡◌, ◌∙◌, ◌∷◌, ◌++◌, [], Err, None, Ok, Some, ap, append-nil, arith, inl, map, refl, subst, sym, take}
use Rattle.std.specs.Prelude.{Contains, string_bytes}
use Rattle.std.specs.Option.{option_map}
use Rattle.std.proofs.lemmas.List.{length-map, map-append, take_all}
use Rattle.std.proofs.lemmas.Result.{err_from_is_err_and}
use Rattle.leveldb_base.proofs.HistoryLemmas.{in_front}
use Rattle.leveldb_table.proofs.TableBlockLemmas.{KeepsDisk-refl, KeepsDisk-trans, same_files}
use Rattle.leveldb_store.specs.Openings.DamageSteps.{LooksAtName}
use Rattle.leveldb_store.proofs.Keeping.DamageLemmas.{AreAmong, among_more, among_none, looks_up_to}
use Rattle.leveldb_store.proofs.Keeping.RemoveLemmas.{in_rest_of, next_item}
use Rattle.leveldb_store.proofs.open_store.OpenStore.tell_damage.Goals as goal

pub loop-name-init : goal.loop-name-init
loop-name-init g c = record {
  found = λ modelled. subst (λ items. AreAmong g.E.Env c.args.self.now.set c.args.env.now [] (map string_bytes items)) (sym c.new-paths.ensures.items)
      (among_none g.E.Env c.args.self.now.set c.args.env.now);
  keeps = KeepsDisk-refl g.E.Env c.args.env.now;
  later = omega arith;
  log = refl;
}

pub loop-name-preserved-in_default : goal.loop-name-preserved-in_default
loop-name-preserved-in_default g c =
    let set = c.args.self.now.set in
    let from = c.args.env.now in
    let names = c.args.names.now in
    let i = c.loop-name.name-index in
    let item = c.name-item.result in
    let inv = c.loop-name.invariant in
    let said = c.tell_damage_at.ensures in
    let next = next_item string_bytes names i item (omega arith) c.name-item.is in
    let done = take i (map string_bytes names) in
    let found = map string_bytes c.loop-name.paths.items in
    let one = subst (λ name. LooksAtName g.E.Env set c.loop-name.env name (option_map string_bytes) (Ok None) c.tell_damage_at.new.env) c.deref.ensures (rw c.in_default.is at c.in_ok-path.ensures.looks) in
    record {
      found = λ modelled. subst (λ items. AreAmong g.E.Env set from items found) (sym next.0)
          (subst (AreAmong g.E.Env set from (done ++ string_bytes item ∷ [])) (append-nil found)
          (among_more g.E.Env set from done found (string_bytes item) (g.E.Env.observed c.loop-name.env).disk.files (same_files g.E.Env inv.keeps modelled) (inv.found modelled) None (one.damaged modelled)));
      keeps = KeepsDisk-trans g.E.Env inv.keeps said.keeps;
      later = omega (arith, inv.later, one.cause.later);
      log = said.log ∙ inv.log;
    }

pub loop-name-preserved : goal.loop-name-preserved
loop-name-preserved g c =
    let set = c.args.self.now.set in
    let from = c.args.env.now in
    let names = c.args.names.now in
    let i = c.loop-name.name-index in
    let item = c.name-item.result in
    let inv = c.loop-name.invariant in
    let said = c.tell_damage_at.ensures in
    let path = c.in-Some.path in
    let next = next_item string_bytes names i item (omega arith) c.name-item.is in
    let done = take i (map string_bytes names) in
    let found = map string_bytes c.loop-name.paths.items in
    let one = subst (λ name. LooksAtName g.E.Env set c.loop-name.env name (option_map string_bytes) (Ok (Some path)) c.tell_damage_at.new.env) c.deref.ensures (rw c.in-Some.is at c.in_ok-path.ensures.looks) in
    let pushed = sym (map-append string_bytes c.loop-name.paths.items (path ∷ [])) ∙ ap (map string_bytes) (sym c.in_ok-push.ensures.items) in
    record {
      found = λ modelled. subst (λ items. AreAmong g.E.Env set from items (map string_bytes c.push.new.self.items)) (sym next.0)
          (subst (AreAmong g.E.Env set from (done ++ string_bytes item ∷ [])) pushed
          (among_more g.E.Env set from done found (string_bytes item) (g.E.Env.observed c.loop-name.env).disk.files (same_files g.E.Env inv.keeps modelled) (inv.found modelled) (Some (string_bytes path)) (one.damaged modelled)));
      keeps = KeepsDisk-trans g.E.Env inv.keeps said.keeps;
      later = omega (arith, inv.later, one.cause.later);
      log = said.log ∙ inv.log;
    }

pub returns-clause-looks : goal.returns-clause-looks
returns-clause-looks g c =
    let all : take c.loop-name.name-index (map string_bytes c.args.names.now) ≡ map string_bytes c.args.names.now =
    take_all c.loop-name.name-index (map string_bytes c.args.names.now) (simp length-map (omega arith)) in
    let inv = c.loop-name.invariant in
    record {
      damaged = λ modelled. subst (λ names. AreAmong g.E.Env c.args.self.now.set c.args.env.now names (map string_bytes c.loop-name.paths.items)) all (inv.found modelled);
      cause = record { later = inv.later; cause = tt };
    }

pub returns-in_err-path-clause-looks : goal.returns-in_err-path-clause-looks
returns-in_err-path-clause-looks g c =
    let set = c.args.self.now.set in
    let names = c.args.names.now in
    let i = c.loop-name.name-index in
    let item = c.name-item.result in
    let inv = c.loop-name.invariant in
    let next = next_item string_bytes names i item (omega arith) c.name-item.is in
    let p = err_from_is_err_and c.from_residual.result c.from_residual.ensures.1 in
    rw (p.1, p.2) (looks_up_to g.E.Env set c.args.env.now (λ paths. map string_bytes paths.items) (option_map string_bytes) (map string_bytes names) (string_bytes item)
    (in_rest_of i (map string_bytes names) (string_bytes item) (subst (λ xs. Contains xs (string_bytes item)) (sym next.1) (in_front (string_bytes item) _)))
    c.loop-name.env inv.later (λ modelled. same_files g.E.Env inv.keeps modelled) _ c.tell_damage_at.new.env
    (subst (λ name. LooksAtName g.E.Env set c.loop-name.env name (option_map string_bytes) (Err c.in_err-path.field-0.0) c.tell_damage_at.new.env) c.deref.ensures c.in_err-path.ensures.looks))

pub returns-in_err-push-clause-looks : goal.returns-in_err-push-clause-looks
returns-in_err-push-clause-looks g c =
    let names = c.args.names.now in
    let i = c.loop-name.name-index in
    let item = c.name-item.result in
    let next = next_item string_bytes names i item (omega arith) c.name-item.is in
    let p = err_from_is_err_and c.from_residual-in_err-push.result c.from_residual-in_err-push.ensures.1 in
    rw p.1 (record {
      damaged = tt;
      cause = record {
        later = omega (arith, c.loop-name.invariant.later, c.tell_damage_at.ensures.looks.cause.later);
        cause = inl (
          string_bytes item,
          in_rest_of i (map string_bytes names) (string_bytes item) (subst (λ xs. Contains xs (string_bytes item)) (sym next.1) (in_front (string_bytes item) _)),
          inl p.2,
        );
      };
    })
