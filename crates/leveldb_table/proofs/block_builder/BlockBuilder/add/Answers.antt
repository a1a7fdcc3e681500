use Rattle.std.proofs.Common.{◌≡◌, ◌+◌, ◌^◌, ◌≤◌, true, false, ◌++◌, ◌∷◌, [], ◌%◌, ◌<◌, nat_eq, length, take, drop, refl, sym, ◌∙◌, ap, subst, arith, rules, length-drop, inl, inr, ℕ, List, flat_map, Result, Ok, Err}
use Rattle.std.proofs.lemmas.List.{take_rest}
use Rattle.std.specs.Prelude.{IsErrAnd}
use Rattle.leveldb_base.specs.Error.{IsOutOfMemory}
use Rattle.leveldb_base.specs.declared.error.Status.{Status}
use Rattle.leveldb_base.specs.declared.error.StatusCode.TheVariants.{NotSupported, OutOfMemory}
use Rattle.leveldb_table.specs.Block.{parts_bytes, BlockEntry, entry_bytes}
use Rattle.leveldb_table.specs.BlockBuilder.{AreEntriesBuilt, points_more, shared_len, IsEntryTooLarge}
use Rattle.leveldb_table.specs.BlockBuilderLaws.{HasEntriesBuilt-prop}
use Rattle.leveldb_table.proofs.BlockBuilderLemmas.{built_are, entries_are, pairs_are, OnErr-always, parts_room, count_small, built_more, new_entry, new_pairs, entry_is}
use Rattle.leveldb_table.proofs.RefusalLemmas.{IfErr-refused, OnOk-refused}
use Rattle.leveldb_table.proofs.block_builder.BlockBuilder.add.Goals as goal

pub returns-then-not-fits-clause-err : goal.returns-then-not-fits-clause-err
returns-then-not-fits-clause-err g c =
    let encoded = c.self.inside.built.1.encoded in
    let pointed = c.self.inside.built.1.pointed in
    rw (← c.self.view_is) (OnErr-always c.err.result (search rules, refl))

pub returns-in_err-reserve-clause-err : goal.returns-in_err-reserve-clause-err
returns-in_err-reserve-clause-err g c =
    let encoded = c.reserve.ensures.items ∙ c.self.inside.built.1.encoded in
    let pointed = c.self.inside.built.1.pointed in
    rw (← c.self.view_is) (OnErr-always c.from_residual.result (search (built_are, rules), refl))

pub returns-in_err-reserve-2-clause-err : goal.returns-in_err-reserve-2-clause-err
returns-in_err-reserve-2-clause-err g c =
    let encoded = c.reserve.ensures.items ∙ c.self.inside.built.1.encoded in
    let pointed = c.self.inside.built.1.pointed in
    rw (← c.self.view_is) (OnErr-always c.from_residual-in_err-reserve-2.result (search (built_are, rules), refl))

pub returns-in_err-reserve-3-clause-err : goal.returns-in_err-reserve-3-clause-err
returns-in_err-reserve-3-clause-err g c =
    let encoded = c.reserve.ensures.items ∙ c.self.inside.built.1.encoded in
    let pointed = ap (λ z. 0 ∷ z) c.reserve-3.ensures.items ∙ c.self.inside.built.1.pointed in
    rw (← c.self.view_is) (OnErr-always c.from_residual-in_err-reserve-3.result (search (built_are, rules), refl))

pub put_entry-requires : goal.put_entry-requires
put_entry-requires g c =
    let fit = c.fits.ensures.0 c.if-not-fits.false in
    let shared = c.shared_with-shared.result in
    let key_fits = fit.1 in
    let shared_fits : shared < 2 ^ 32 = omega (arith, key_fits, c.shared_with-shared.ensures.within_key) in
    let rest_fits : length (drop shared c.args.key.now) < 2 ^ 32 = omega (arith, key_fits, length-drop shared c.args.key.now) in
    let room = parts_room shared (drop shared c.args.key.now) c.args.value.now shared_fits rest_fits fit.2 in
    rw take_rest (omega (arith, room, c.in_ok-reserve.ensures.ok, length-drop shared c.args.key.now))

pub overflow_add-self : goal.overflow_add-self
overflow_add-self g c =
    let fit = c.fits.ensures.0 c.if-not-fits.false in
    let built = c.self.inside.built.1 in
    let small = fit.0 in
    omega (arith, small, built.counted, count_small c.self.inside.built.0, ap length built.encoded, c.len.ensures, c.self.inside.buffer.ok.0)

pub invariant_of-self-inside-3 : goal.invariant_of-self-inside-3
invariant_of-self-inside-3 g c =
    let requires = rw (← c.self.view_is) at c.requires in
    let fit = c.fits.ensures.0 c.if-not-fits.false in
    let built = c.self.inside.built.1 in
    let restart = nat_eq (c.self.inside.count % c.self.inside.interval) 0 in
    let shared = c.shared_with-shared.result in
    let key = c.args.key.now in
    let value = c.args.value.now in
    let within = subst (λ z. shared ≤ length z) c.as_slice.ensures.value c.shared_with-shared.ensures.within_last in
    let same = subst (λ z. take shared z ≡ take shared key) c.as_slice.ensures.value c.shared_with-shared.ensures.same in
    let here = fit.0 in
    let offset_fits : length c.self.inside.buffer.items < 2 ^ 32 = omega (arith, here, c.len.ensures, c.self.inside.buffer.ok.0) in
    let size : c.len-3.result ≡ length c.self.inside.buffer.items = omega (arith, c.len-3.ensures, c.reserve.ensures.len, c.self.inside.buffer.ok.0) in
    let written = rw take_rest at c.put_entry.ensures in
    let put = written ∙ ap (λ z. z ++ parts_bytes shared (drop shared key) value) c.reserve.ensures.items in
    let longest = λ (no : restart ≡ false). c.shared_with-shared.ensures.longest no ∙ ap (λ z. shared_len z key) c.as_slice.ensures.value in
    let more =
    built_more built restart key value shared refl within same c.shared_with-shared.ensures.none fit.1 fit.2 c.shared_with-shared.ensures.within_key offset_fits requires
    longest c.put_point.new.points.items (λ h. c.put_point.ensures.first h ∙ c.reserve-3.ensures.items)
    (λ h. c.put_point.ensures.others h ∙ ap (λ z. z ++ points_more restart c.len-3.result) c.reserve-3.ensures.items ∙ ap (λ z. c.self.inside.points.items ++ points_more restart z) size)
    c.put_entry.new.buffer.items put in
    let last = (rw c.unwrap.ensures at c.extend_from_slice.ensures.items) ∙ ap (λ z. z ++ key) c.clear.ensures.items in
    let entries = c.self.inside.built.0 ++ new_entry built restart key value shared refl within same c.shared_with-shared.ensures.none fit.1 fit.2 c.shared_with-shared.ensures.within_key offset_fits requires ∷ [] in (
      (
        entries,
        subst (λ z. AreEntriesBuilt (g.C.Cmp.cmp c.self.inside.cmp) c.self.inside.interval c.put_entry.new.buffer.items c.put_point.new.points.items z (c.self.inside.count + 1) true entries) (sym last) more,
      ),
      tt,
    )

pub returns-clause-ok : goal.returns-clause-ok
returns-clause-ok g c =
    let requires = rw (← c.self.view_is) at c.requires in
    let fit = c.fits.ensures.0 c.if-not-fits.false in
    let built = c.self.inside.built.1 in
    let restart = nat_eq (c.self.inside.count % c.self.inside.interval) 0 in
    let shared = c.shared_with-shared.result in
    let key = c.args.key.now in
    let value = c.args.value.now in
    let within = subst (λ z. shared ≤ length z) c.as_slice.ensures.value c.shared_with-shared.ensures.within_last in
    let same = subst (λ z. take shared z ≡ take shared key) c.as_slice.ensures.value c.shared_with-shared.ensures.same in
    let here = fit.0 in
    let offset_fits : length c.self.inside.buffer.items < 2 ^ 32 = omega (arith, here, c.len.ensures, c.self.inside.buffer.ok.0) in
    let size : c.len-3.result ≡ length c.self.inside.buffer.items = omega (arith, c.len-3.ensures, c.reserve.ensures.len, c.self.inside.buffer.ok.0) in
    let written = rw take_rest at c.put_entry.ensures in
    let put = written ∙ ap (λ z. z ++ parts_bytes shared (drop shared key) value) c.reserve.ensures.items in
    let longest = λ (no : restart ≡ false). c.shared_with-shared.ensures.longest no ∙ ap (λ z. shared_len z key) c.as_slice.ensures.value in
    let more =
    built_more built restart key value shared refl within same c.shared_with-shared.ensures.none fit.1 fit.2 c.shared_with-shared.ensures.within_key offset_fits requires
    longest c.put_point.new.points.items (λ h. c.put_point.ensures.first h ∙ c.reserve-3.ensures.items)
    (λ h. c.put_point.ensures.others h ∙ ap (λ z. z ++ points_more restart c.len-3.result) c.reserve-3.ensures.items ∙ ap (λ z. c.self.inside.points.items ++ points_more restart z) size)
    c.put_entry.new.buffer.items put in
    let encoded = more.encoded in
    let pointed = more.pointed in
    let pairs = new_pairs built restart key value shared refl within same c.shared_with-shared.ensures.none fit.1 fit.2 c.shared_with-shared.ensures.within_key offset_fits requires in
    let entry = ap (λ z. c.self.inside.built.0 ++ z ∷ []) (entry_is c.self.inside.count built key value shared c.shared_with-shared.ensures.none longest) in
    rw (← c.self.view_is) ((record { pairs = search (pairs_are, rules); entry = search (entries_are, rules) }, refl))

pub same-self : goal.same-self
same-self g c =
    let it = c.self.inside in
    ap (λ built. record {
      cmp = it.cmp;
      interval = it.interval;
      buffer = it.buffer;
      points = it.points;
      last_key = it.last_key;
      count = it.count;
      begun = it.begun;
      built = built;
    }) (HasEntriesBuilt-prop (g.C.Cmp.cmp it.cmp) it.interval it.buffer.items it.points.items it.last_key.items it.count it.begun _ _)

pub returns-then-not-fits-clause-ok : goal.returns-then-not-fits-clause-ok
returns-then-not-fits-clause-ok g c = OnOk-refused _ _ c.err.result c.err.ensures.code

pub returns-in_err-reserve-clause-ok : goal.returns-in_err-reserve-clause-ok
returns-in_err-reserve-clause-ok g c = OnOk-refused _ _ c.from_residual.result c.from_residual.ensures.1

pub returns-in_err-reserve-2-clause-ok : goal.returns-in_err-reserve-2-clause-ok
returns-in_err-reserve-2-clause-ok g c = OnOk-refused _ _ c.from_residual-in_err-reserve-2.result c.from_residual-in_err-reserve-2.ensures.1

pub returns-in_err-reserve-3-clause-ok : goal.returns-in_err-reserve-3-clause-ok
returns-in_err-reserve-3-clause-ok g c = OnOk-refused _ _ c.from_residual-in_err-reserve-3.result c.from_residual-in_err-reserve-3.ensures.1

pub returns-then-not-fits-clause-order : goal.returns-then-not-fits-clause-order
returns-then-not-fits-clause-order g c = refl

pub returns-then-not-fits-clause-interval : goal.returns-then-not-fits-clause-interval
returns-then-not-fits-clause-interval g c = refl

pub returns-in_err-reserve-clause-order : goal.returns-in_err-reserve-clause-order
returns-in_err-reserve-clause-order g c = ap (λ core. core.cmp) c.self.view_is

pub returns-in_err-reserve-clause-interval : goal.returns-in_err-reserve-clause-interval
returns-in_err-reserve-clause-interval g c = ap (λ core. core.interval) c.self.view_is

pub returns-in_err-reserve-2-clause-order : goal.returns-in_err-reserve-2-clause-order
returns-in_err-reserve-2-clause-order g c = ap (λ core. core.cmp) c.self.view_is

pub returns-in_err-reserve-2-clause-interval : goal.returns-in_err-reserve-2-clause-interval
returns-in_err-reserve-2-clause-interval g c = ap (λ core. core.interval) c.self.view_is

pub returns-in_err-reserve-3-clause-order : goal.returns-in_err-reserve-3-clause-order
returns-in_err-reserve-3-clause-order g c = ap (λ core. core.cmp) c.self.view_is

pub returns-in_err-reserve-3-clause-interval : goal.returns-in_err-reserve-3-clause-interval
returns-in_err-reserve-3-clause-interval g c = ap (λ core. core.interval) c.self.view_is

pub returns-clause-order : goal.returns-clause-order
returns-clause-order g c = ap (λ core. core.cmp) c.self.view_is

pub returns-clause-interval : goal.returns-clause-interval
returns-clause-interval g c = ap (λ core. core.interval) c.self.view_is

pub returns-then-not-fits-clause-cause : goal.returns-then-not-fits-clause-cause
returns-then-not-fits-clause-cause g c = IfErr-refused _ _ c.err.result (λ status code. inl code) c.err.ensures.code

pub returns-in_err-reserve-clause-cause : goal.returns-in_err-reserve-clause-cause
returns-in_err-reserve-clause-cause g c = IfErr-refused _ _ c.from_residual.result (λ status memory. inr memory) c.from_residual.ensures.1

pub returns-in_err-reserve-2-clause-cause : goal.returns-in_err-reserve-2-clause-cause
returns-in_err-reserve-2-clause-cause g c = IfErr-refused _ _ c.from_residual-in_err-reserve-2.result (λ status memory. inr memory) c.from_residual-in_err-reserve-2.ensures.1

pub returns-in_err-reserve-3-clause-cause : goal.returns-in_err-reserve-3-clause-cause
returns-in_err-reserve-3-clause-cause g c = IfErr-refused _ _ c.from_residual-in_err-reserve-3.result (λ status memory. inr memory) c.from_residual-in_err-reserve-3.ensures.1

-- an error that is out of memory is not for a large entry
memory_not_large : {T : Type 0} (result : Result T Status) → IsErrAnd result IsOutOfMemory → IsErrAnd result (λ status. status.code ≡ NotSupported) → ⊥
memory_not_large (Ok value) memory large = memory
memory_not_large (Err status) memory large = let clash : OutOfMemory ≡ NotSupported = sym memory.0 ∙ large in cc

-- an entry of lengths and an offset of 32 bits is not too large
entry_fits : (entries : List BlockEntry) (key value bytes : List ℕ) → bytes ≡ flat_map entry_bytes entries → length bytes < 2 ^ 32 → length key < 2 ^ 32 → length value < 2 ^ 32 → IsEntryTooLarge entries key value → ⊥
entry_fits entries key value bytes encoded small key_small value_small (inl large) = omega (arith, small, ap length encoded, large)
entry_fits entries key value bytes encoded small key_small value_small (inr (inl large)) = omega (arith, key_small, large)
entry_fits entries key value bytes encoded small key_small value_small (inr (inr large)) = omega (arith, value_small, large)

pub returns-in_err-reserve-clause-too_large : goal.returns-in_err-reserve-clause-too_large
returns-in_err-reserve-clause-too_large g c =
    let fit = c.fits.ensures.0 c.if-not-fits.false in
    let here = fit.0 in
    let small : length c.self.inside.buffer.items < 2 ^ 32 = omega (arith, here, c.len.ensures, c.self.inside.buffer.ok.0) in (
      λ large. absurd (memory_not_large c.from_residual.result c.from_residual.ensures.1 large),
      λ large. absurd (entry_fits c.self.inside.built.0 _ _ _ c.self.inside.built.1.encoded small fit.1 fit.2
          (subst (λ core. IsEntryTooLarge core.entries c.args.key.now c.args.value.now) (sym c.self.view_is) large)),
    )

pub returns-in_err-reserve-2-clause-too_large : goal.returns-in_err-reserve-2-clause-too_large
returns-in_err-reserve-2-clause-too_large g c =
    let fit = c.fits.ensures.0 c.if-not-fits.false in
    let here = fit.0 in
    let small : length c.self.inside.buffer.items < 2 ^ 32 = omega (arith, here, c.len.ensures, c.self.inside.buffer.ok.0) in (
      λ large. absurd (memory_not_large c.from_residual-in_err-reserve-2.result c.from_residual-in_err-reserve-2.ensures.1 large),
      λ large. absurd (entry_fits c.self.inside.built.0 _ _ _ c.self.inside.built.1.encoded small fit.1 fit.2
          (subst (λ core. IsEntryTooLarge core.entries c.args.key.now c.args.value.now) (sym c.self.view_is) large)),
    )

pub returns-in_err-reserve-3-clause-too_large : goal.returns-in_err-reserve-3-clause-too_large
returns-in_err-reserve-3-clause-too_large g c =
    let fit = c.fits.ensures.0 c.if-not-fits.false in
    let here = fit.0 in
    let small : length c.self.inside.buffer.items < 2 ^ 32 = omega (arith, here, c.len.ensures, c.self.inside.buffer.ok.0) in (
      λ large. absurd (memory_not_large c.from_residual-in_err-reserve-3.result c.from_residual-in_err-reserve-3.ensures.1 large),
      λ large. absurd (entry_fits c.self.inside.built.0 _ _ _ c.self.inside.built.1.encoded small fit.1 fit.2
          (subst (λ core. IsEntryTooLarge core.entries c.args.key.now c.args.value.now) (sym c.self.view_is) large)),
    )

pub returns-clause-too_large : goal.returns-clause-too_large
returns-clause-too_large g c =
    let fit = c.fits.ensures.0 c.if-not-fits.false in
    let here = fit.0 in
    let small : length c.self.inside.buffer.items < 2 ^ 32 = omega (arith, here, c.len.ensures, c.self.inside.buffer.ok.0) in (
      λ large. absurd large,
      λ large. absurd (entry_fits c.self.inside.built.0 _ _ _ c.self.inside.built.1.encoded small fit.1 fit.2
          (subst (λ core. IsEntryTooLarge core.entries c.args.key.now c.args.value.now) (sym c.self.view_is) large)),
    )
