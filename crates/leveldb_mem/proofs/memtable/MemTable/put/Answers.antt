use Rattle.std.proofs.Common.{◌≡◌, ◌++◌, true, false, List, option_copied, ap, sym, subst, ◌∙◌, ⊎_elim, arith}
use Rattle.std.proofs.lemmas.Bool.{cases_Bool, OnTrue_at, OnTrue_from, OnFalse_at, OnFalse_from}
use Rattle.std.specs.Prelude.{All}
use Rattle.leveldb_base.specs.Cmp.{memtable_accepts}
use Rattle.leveldb_base.specs.KeyTypes.{front_key, user_part, sequence_part}
use Rattle.leveldb_base.specs.Types.{Pair}
use Rattle.leveldb_base.specs.Entries.{type_of, bytes_of_value}
use Rattle.leveldb_mem.specs.MemTable.{entry_of, entry_key, entry_from, IsEntryPair, entries_of_keys}
use Rattle.leveldb_mem.proofs.MemTableLemmas.{key_of_parts, length-parts, entry_again, entry_user, entry_number, accepted_key, grows}
use Rattle.leveldb_mem.proofs.SkipMapLemmas.{length-five}
use Rattle.leveldb_mem.proofs.EntryLemmas.{gains_entry, still_entries, not_new, is_new}
use Rattle.leveldb_mem.proofs.memtable.MemTable.put.Goals as goal

pub put_parts-requires-clause-accepted : goal.put_parts-requires-clause-accepted
unfolding entry_key
put_parts-requires-clause-accepted g c =
    let value = option_copied c.args.value in
    let whole =
    key_of_parts c.encode_length-head.result.now c.args.key.now c.tag_bytes-tag.result c.encode_length-size.result.now c.type_and_bytes-parts.result.1.now c.args.sequence
    c.type_and_bytes-parts.result.0 value c.type_and_bytes-parts.ensures.kind c.type_and_bytes-parts.ensures.bytes c.encode_length-head.ensures c.tag_bytes-tag.ensures c.encode_length-size.ensures in
    ap (memtable_accepts (g.C.Cmp.accepts c.self.inside.map.cmp.0)) whole
    ∙ accepted_key (g.C.Cmp.accepts c.self.inside.map.cmp.0) c.args.key.now c.args.sequence (type_of value) (bytes_of_value value) (g.met.C.UserCmp.accepts_all c.self.inside.map.cmp.0 c.args.key.now)

pub put_parts-requires-clause-user : goal.put_parts-requires-clause-user
put_parts-requires-clause-user g c =
    let value = option_copied c.args.value in
    let whole =
    key_of_parts c.encode_length-head.result.now c.args.key.now c.tag_bytes-tag.result c.encode_length-size.result.now c.type_and_bytes-parts.result.1.now c.args.sequence
    c.type_and_bytes-parts.result.0 value c.type_and_bytes-parts.ensures.kind c.type_and_bytes-parts.ensures.bytes c.encode_length-head.ensures c.tag_bytes-tag.ensures c.encode_length-size.ensures in
    ap (λ k. user_part (front_key k)) whole ∙ entry_user (entry_of c.args.sequence c.args.key.now value)

pub put_parts-requires-clause-number : goal.put_parts-requires-clause-number
put_parts-requires-clause-number g c =
    let value = option_copied c.args.value in
    let whole =
    key_of_parts c.encode_length-head.result.now c.args.key.now c.tag_bytes-tag.result c.encode_length-size.result.now c.type_and_bytes-parts.result.1.now c.args.sequence
    c.type_and_bytes-parts.result.0 value c.type_and_bytes-parts.ensures.kind c.type_and_bytes-parts.ensures.bytes c.encode_length-head.ensures c.tag_bytes-tag.ensures c.encode_length-size.ensures in
    ap (λ k. sequence_part (front_key k)) whole ∙ entry_number (entry_of c.args.sequence c.args.key.now value) c.requires.numbered

pub put_parts-requires-clause-bytes : goal.put_parts-requires-clause-bytes
put_parts-requires-clause-bytes g c =
    let value = option_copied c.args.value in
    let size =
    length-parts c.encode_length-head.result.now c.args.key.now c.tag_bytes-tag.result c.encode_length-size.result.now c.type_and_bytes-parts.result.1.now c.args.sequence
    c.type_and_bytes-parts.result.0 value c.type_and_bytes-parts.ensures.kind c.type_and_bytes-parts.ensures.bytes c.encode_length-head.ensures c.tag_bytes-tag.ensures c.encode_length-size.ensures
    (omega arith) (omega arith) in
    omega (arith, size, c.self.invariant.1, c.requires.room.places, c.requires.room.bytes, ap (λ m. m.kept.places) c.self.view_is, ap (λ m. m.kept.bytes) c.self.view_is)

pub invariant_of-self : goal.invariant_of-self
unfolding entry_key
invariant_of-self g c =
    let value = option_copied c.args.value in
    let entry = entry_of c.args.sequence c.args.key.now value in
    let whole =
    key_of_parts c.encode_length-head.result.now c.args.key.now c.tag_bytes-tag.result c.encode_length-size.result.now c.type_and_bytes-parts.result.1.now c.args.sequence
    c.type_and_bytes-parts.result.0 value c.type_and_bytes-parts.ensures.kind c.type_and_bytes-parts.ensures.bytes c.encode_length-head.ensures c.tag_bytes-tag.ensures c.encode_length-size.ensures in
    let size =
    length-parts c.encode_length-head.result.now c.args.key.now c.tag_bytes-tag.result c.encode_length-size.result.now c.type_and_bytes-parts.result.1.now c.args.sequence
    c.type_and_bytes-parts.result.0 value c.type_and_bytes-parts.ensures.kind c.type_and_bytes-parts.ensures.bytes c.encode_length-head.ensures c.tag_bytes-tag.ensures c.encode_length-size.ensures
    (omega arith) (omega arith) in
    let five = length-five c.encode_length-head.result.now c.args.key.now c.tag_bytes-tag.result c.encode_length-size.result.now c.type_and_bytes-parts.result.1.now in
    ⊎_elim
    (λ (t : c.put_parts.result ≡ true). (
      still_entries (OnTrue_at t c.put_parts.ensures.put) entry whole c.requires.numbered c.self.invariant.0,
      omega (
        arith,
        size,
        five,
        OnTrue_at t c.put_parts.ensures.place,
        c.put_parts.ensures.bytes,
        c.self.invariant.1,
        c.requires.room.places,
        c.requires.room.bytes,
        ap (λ m. m.kept.places) c.self.view_is,
        ap (λ m. m.kept.bytes) c.self.view_is,
      ),
    ))
    (λ (f : c.put_parts.result ≡ false). (
      subst (λ (ps : List Pair). All IsEntryPair ps) (sym (OnFalse_at f c.put_parts.ensures.left)) c.self.invariant.0,
      omega (arith, OnFalse_at f c.put_parts.ensures.places, OnFalse_at f c.put_parts.ensures.unused, c.self.invariant.1),
    ))
    (cases_Bool c.put_parts.result)

pub returns-clause-kept : goal.returns-clause-kept
returns-clause-kept g c =
    let value = option_copied c.args.value in
    let entry = entry_of c.args.sequence c.args.key.now value in
    let it = c.self.inside.map in
    let put = c.put_parts.ensures in
    let o = g.met.C.Cmp.preorder it.cmp.0 in
    let all = g.met.C.UserCmp.accepts_all it.cmp.0 in
    let exact = g.met.C.UserCmp.exact it.cmp.0 in
    let key = c.encode_length-head.result.now ++ c.args.key.now ++ c.tag_bytes-tag.result ++ c.encode_length-size.result.now ++ c.type_and_bytes-parts.result.1.now in
    let whole : key ≡ entry_key entry =
    key_of_parts c.encode_length-head.result.now c.args.key.now c.tag_bytes-tag.result c.encode_length-size.result.now c.type_and_bytes-parts.result.1.now c.args.sequence
    c.type_and_bytes-parts.result.0 value c.type_and_bytes-parts.ensures.kind c.type_and_bytes-parts.ensures.bytes c.encode_length-head.ensures c.tag_bytes-tag.ensures c.encode_length-size.ensures in
    let again : entry_from key ≡ entry = ap entry_from whole ∙ entry_again entry c.requires.numbered in
    let size =
    length-parts c.encode_length-head.result.now c.args.key.now c.tag_bytes-tag.result c.encode_length-size.result.now c.type_and_bytes-parts.result.1.now c.args.sequence
    c.type_and_bytes-parts.result.0 value c.type_and_bytes-parts.ensures.kind c.type_and_bytes-parts.ensures.bytes c.encode_length-head.ensures c.tag_bytes-tag.ensures c.encode_length-size.ensures
    (omega arith) (omega arith) in
    let five = length-five c.encode_length-head.result.now c.args.key.now c.tag_bytes-tag.result c.encode_length-size.result.now c.type_and_bytes-parts.result.1.now in
    rw (← c.self.view_is) (record {
      absent = OnTrue_from c.put_parts.result _ (λ t. is_new o all exact it.pairs key entry again (OnTrue_at t put.absent));
      adds = OnTrue_from c.put_parts.result _ (λ t. record {
        gains = gains_entry (OnTrue_at t put.put) entry again;
        places = omega (arith, OnTrue_at t put.place);
        bytes = omega (arith, size, five, OnTrue_at t put.place, put.bytes, c.self.invariant.1);
      });
      grows = OnTrue_from c.put_parts.result _ (λ t. grows (OnTrue_at t put.put) entry again);
      present = OnFalse_from c.put_parts.result _ (λ f. not_new o all exact it.pairs key entry again (OnFalse_at f put.present));
      entries = OnFalse_from c.put_parts.result _ (λ f. ap entries_of_keys (OnFalse_at f put.left));
      places = OnFalse_from c.put_parts.result _ (λ f. OnFalse_at f put.places);
      bytes = OnFalse_from c.put_parts.result _ (λ f. omega (arith, OnFalse_at f put.places, OnFalse_at f put.unused));
    })
