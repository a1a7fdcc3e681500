-- what comes after the pairs becomes a pair, and its node is linked
use Rattle.std.proofs.Common.{◌≡◌, ◌≢◌, ◌≤◌, ◌∙◌, ◌+◌, ◌-◌, ◌<◌, ◌++◌, ℕ, suc, true, is_ok, ap, sym, length, take, drop, slice_index, arith, length-drop, length-append, take-append-drop}
use Rattle.std.proofs.lemmas.Bool.{cond-true}
use Rattle.std.proofs.lemmas.List.{take_at}
use Rattle.leveldb_mem.specs.Placed.{head, nodes_after, place_of}
use Rattle.leveldb_mem.proofs.PlacedLemmas.{length-pairs_of_nodes}
use Rattle.leveldb_mem.proofs.InsertionLemmas.{before_within}
use Rattle.leveldb_mem.proofs.LaidLemmas.{NodeWords, grown_size, laid_placed, pairs_placed}
use Rattle.leveldb_mem.proofs.skipmap.placed.PlacedPairs.place.Goals as goal

pub node_words-record-requires-clause-within : goal.node_words-record-requires-clause-within
node_words-record-requires-clause-within c =
    let it = c.self.inside in
    let text = it.text.items in
    let words = it.words.items in
    let nodes = nodes_after words head it.count in
    let laid = c.self.invariant.0 in
    let path = c.args.path.now in
    let at = place_of nodes path in
    let room = rw (← c.self.view_is) at c.requires.room in
    let opened : 0 < length words = omega (arith, c.self.invariant.1 room, it.words.ok.0) in
    let at_is = rw (← c.self.view_is) at c.requires.at in
    let within : at ≤ length nodes = omega (arith, at_is, length-pairs_of_nodes text words nodes) in
    let to = rw (← c.self.view_is) at c.requires.path in
    λ k h. omega (arith, before_within (laid.linked opened) path (take at nodes) (drop at nodes) (sym (take-append-drop at nodes)) to k (omega (arith, h, c.requires.height.1)), c.deref.ensures.value, ap length c.deref.ensures.value)

pub link_node-requires-clause-within : goal.link_node-requires-clause-within
link_node-requires-clause-within c =
    let it = c.self.inside in
    let text = it.text.items in
    let words = it.words.items in
    let nodes = nodes_after words head it.count in
    let laid = c.self.invariant.0 in
    let path = c.args.path.now in
    let at = place_of nodes path in
    let room = rw (← c.self.view_is) at c.requires.room in
    let opened : 0 < length words = omega (arith, c.self.invariant.1 room, it.words.ok.0) in
    let at_is = rw (← c.self.view_is) at c.requires.at in
    let within : at ≤ length nodes = omega (arith, at_is, length-pairs_of_nodes text words nodes) in
    let to = rw (← c.self.view_is) at c.requires.path in
    let key_is = rw (← c.self.view_is) at c.requires.key in
    let key_within : it.end + c.args.key_length ≤ length text = omega (arith, key_is, length-drop it.end text, laid.within) in
    let len_is : c.len-end.result ≡ length text = c.len-end.ensures ∙ it.text.ok.0 in
    let record_words = c.node_words-record.result in
    let made = c.node_words-record.ensures in
    let node : NodeWords words path record_words it.end c.args.key_length (length text - it.end - c.args.key_length) c.args.height = record {
      size = made.size;
      start_is = made.start;
      key_is = made.key;
      value_is = made.value ∙ ap (λ n. n - it.end - c.args.key_length) len_is;
      height_is = made.height;
      links_are = λ k h. made.links k h ∙ ap (λ ws. slice_index ws (slice_index path k + k)) c.deref.ensures.value;
    } in
    let there : is_ok c.extend_from_slice.result ≡ true = ap is_ok c.unwrap.ensures in
    let items_are : c.extend_from_slice.new.self.items ≡ words ++ take (4 + c.args.height) record_words = c.extend_from_slice.ensures.items ∙ cond-true _ (words ++ take (4 + c.args.height) record_words) words there in
    let longer : length words ≤ length c.deref_mut.result.now = omega (arith, ap length (c.deref_mut.ensures.value ∙ items_are), length-append words (take (4 + c.args.height) record_words)) in
    λ k h. omega (arith, before_within (laid.linked opened) path (take at nodes) (drop at nodes) (sym (take-append-drop at nodes)) to k (omega (arith, h, c.requires.height.1)), longer)

pub invariant_of-self : goal.invariant_of-self
invariant_of-self c =
    let it = c.self.inside in
    let text = it.text.items in
    let words = it.words.items in
    let nodes = nodes_after words head it.count in
    let laid = c.self.invariant.0 in
    let path = c.args.path.now in
    let at = place_of nodes path in
    let room = rw (← c.self.view_is) at c.requires.room in
    let opened : 0 < length words = omega (arith, c.self.invariant.1 room, it.words.ok.0) in
    let at_is = rw (← c.self.view_is) at c.requires.at in
    let within : at ≤ length nodes = omega (arith, at_is, length-pairs_of_nodes text words nodes) in
    let to = rw (← c.self.view_is) at c.requires.path in
    let key_is = rw (← c.self.view_is) at c.requires.key in
    let key_within : it.end + c.args.key_length ≤ length text = omega (arith, key_is, length-drop it.end text, laid.within) in
    let len_is : c.len-end.result ≡ length text = c.len-end.ensures ∙ it.text.ok.0 in
    let record_words = c.node_words-record.result in
    let made = c.node_words-record.ensures in
    let node : NodeWords words path record_words it.end c.args.key_length (length text - it.end - c.args.key_length) c.args.height = record {
      size = made.size;
      start_is = made.start;
      key_is = made.key;
      value_is = made.value ∙ ap (λ n. n - it.end - c.args.key_length) len_is;
      height_is = made.height;
      links_are = λ k h. made.links k h ∙ ap (λ ws. slice_index ws (slice_index path k + k)) c.deref.ensures.value;
    } in
    let there : is_ok c.extend_from_slice.result ≡ true = ap is_ok c.unwrap.ensures in
    let items_are : c.extend_from_slice.new.self.items ≡ words ++ take (4 + c.args.height) record_words = c.extend_from_slice.ensures.items ∙ cond-true _ (words ++ take (4 + c.args.height) record_words) words there in
    let words' = c.link_node.new.words in
    let new = c.len.result + 4 in
    let new_is : new ≡ length words + 4 = omega (arith, c.len.ensures, it.words.ok.0) in
    let size_is : length words' ≡ length c.extend_from_slice.new.self.items = c.link_node.ensures.length ∙ ap length c.deref_mut.ensures.value in
    let size' : length words' ≡ length (words ++ take (4 + c.args.height) record_words) = size_is ∙ ap length items_are in
    let others = λ (i : ℕ) (clear : (k : ℕ) → k < c.args.height → i ≢ slice_index path k + k).
    c.link_node.ensures.others i clear ∙ ap (λ ws. slice_index ws i) (c.deref_mut.ensures.value ∙ items_are) in
    let back : take c.extend_from_slice.new.self.len (words' ++ drop (length words') c.extend_from_slice.new.self.items) ≡ words' =
    take_at words' (drop (length words') c.extend_from_slice.new.self.items) c.extend_from_slice.new.self.len (omega (arith, size_is, c.extend_from_slice.new.self.ok.0)) in
    let count_is : it.count + 1 ≡ suc it.count = omega arith in
    let shown : c.deref-2.result.now ≡ words' = c.deref-2.ensures.value ∙ back in
    let all = laid_placed laid opened within to c.requires.height.0 c.requires.height.1 key_within node words' new new_is size' c.link_node.ensures.linked others c.keep_last.new.last
    (λ k h e. c.keep_last.ensures.last k h (ap (λ ws. slice_index ws (new + k)) shown ∙ e))
    (λ k h e. c.keep_last.ensures.followed k h (λ z. e (sym (ap (λ ws. slice_index ws (new + k)) shown) ∙ z)))
    c.keep_last.ensures.higher in
    let size = ap length items_are ∙ grown_size laid opened within to c.requires.height.0 c.requires.height.1 key_within node in (
      rw (back, count_is, len_is) all,
      λ _. omega (arith, size, c.extend_from_slice.new.self.ok.0, c.requires.height.0),
      omega (arith, size, c.extend_from_slice.new.self.ok.0, it.words.ok.0, c.requires.height.1, room, c.self.invariant.2, c.extend_from_slice.ensures.capacity),
      omega (arith, size, c.extend_from_slice.new.self.ok.0, it.words.ok.0, c.requires.height.1, room, c.self.invariant.3),
      c.self.invariant.4,
      c.self.invariant.5,
      omega (arith, size, c.extend_from_slice.new.self.ok.0, it.words.ok.0, c.requires.height.1, c.self.invariant.6),
    )

pub returns-clause-pairs : goal.returns-clause-pairs
returns-clause-pairs c =
    let it = c.self.inside in
    let text = it.text.items in
    let words = it.words.items in
    let nodes = nodes_after words head it.count in
    let laid = c.self.invariant.0 in
    let path = c.args.path.now in
    let at = place_of nodes path in
    let room = rw (← c.self.view_is) at c.requires.room in
    let opened : 0 < length words = omega (arith, c.self.invariant.1 room, it.words.ok.0) in
    let at_is = rw (← c.self.view_is) at c.requires.at in
    let within : at ≤ length nodes = omega (arith, at_is, length-pairs_of_nodes text words nodes) in
    let to = rw (← c.self.view_is) at c.requires.path in
    let key_is = rw (← c.self.view_is) at c.requires.key in
    let key_within : it.end + c.args.key_length ≤ length text = omega (arith, key_is, length-drop it.end text, laid.within) in
    let len_is : c.len-end.result ≡ length text = c.len-end.ensures ∙ it.text.ok.0 in
    let record_words = c.node_words-record.result in
    let made = c.node_words-record.ensures in
    let node : NodeWords words path record_words it.end c.args.key_length (length text - it.end - c.args.key_length) c.args.height = record {
      size = made.size;
      start_is = made.start;
      key_is = made.key;
      value_is = made.value ∙ ap (λ n. n - it.end - c.args.key_length) len_is;
      height_is = made.height;
      links_are = λ k h. made.links k h ∙ ap (λ ws. slice_index ws (slice_index path k + k)) c.deref.ensures.value;
    } in
    let there : is_ok c.extend_from_slice.result ≡ true = ap is_ok c.unwrap.ensures in
    let items_are : c.extend_from_slice.new.self.items ≡ words ++ take (4 + c.args.height) record_words = c.extend_from_slice.ensures.items ∙ cond-true _ (words ++ take (4 + c.args.height) record_words) words there in
    let words' = c.link_node.new.words in
    let new = c.len.result + 4 in
    let new_is : new ≡ length words + 4 = omega (arith, c.len.ensures, it.words.ok.0) in
    let size_is : length words' ≡ length c.extend_from_slice.new.self.items = c.link_node.ensures.length ∙ ap length c.deref_mut.ensures.value in
    let size' : length words' ≡ length (words ++ take (4 + c.args.height) record_words) = size_is ∙ ap length items_are in
    let others = λ (i : ℕ) (clear : (k : ℕ) → k < c.args.height → i ≢ slice_index path k + k).
    c.link_node.ensures.others i clear ∙ ap (λ ws. slice_index ws i) (c.deref_mut.ensures.value ∙ items_are) in
    let back : take c.extend_from_slice.new.self.len (words' ++ drop (length words') c.extend_from_slice.new.self.items) ≡ words' =
    take_at words' (drop (length words') c.extend_from_slice.new.self.items) c.extend_from_slice.new.self.len (omega (arith, size_is, c.extend_from_slice.new.self.ok.0)) in
    let count_is : it.count + 1 ≡ suc it.count = omega arith in
    rw (back, count_is, ← c.self.view_is)
    (pairs_placed laid opened within to c.requires.height.0 c.requires.height.1 key_within node words' new new_is size' c.link_node.ensures.linked others)

pub returns-clause-nodes : goal.returns-clause-nodes
returns-clause-nodes c = sym (length-pairs_of_nodes _ _ _)

pub overflow_cast-self-inside : goal.overflow_cast-self-inside
overflow_cast-self-inside c = omega (arith, c.self.invariant.0.within, c.self.invariant.5, c.self.inside.text.ok.0)

pub overflow_cast-key_length : goal.overflow_cast-key_length
overflow_cast-key_length c =
    let it = c.self.inside in
    let key_is = rw (← c.self.view_is) at c.requires.key in
    omega (arith, key_is, length-drop it.end it.text.items, c.self.invariant.5, it.text.ok.0)

pub overflow_cast-value_length : goal.overflow_cast-value_length
overflow_cast-value_length c = omega (arith, c.len-end.ensures, c.self.invariant.5)

pub overflow_cast-node : goal.overflow_cast-node
overflow_cast-node c =
    let room = rw (← c.self.view_is) at c.requires.room in
    omega (arith, c.len.ensures, c.self.invariant.3, room)

pub overflow_add-node : goal.overflow_add-node
overflow_add-node c =
    let room = rw (← c.self.view_is) at c.requires.room in
    omega (arith, c.len.ensures, c.self.invariant.3, room)

pub overflow_add-self : goal.overflow_add-self
overflow_add-self c = omega (arith, c.self.invariant.0.counted, c.self.invariant.3, c.self.inside.words.ok.0)

pub overflow_sub-self : goal.overflow_sub-self
overflow_sub-self c = rw (← c.self.view_is) at c.requires.room

pub overflow_sub-value_length : goal.overflow_sub-value_length
overflow_sub-value_length c = omega (arith, c.len-end.ensures, c.self.invariant.0.within, c.self.inside.text.ok.0)

pub overflow_sub-value_length-2 : goal.overflow_sub-value_length-2
overflow_sub-value_length-2 c =
    let it = c.self.inside in
    let key_is = rw (← c.self.view_is) at c.requires.key in
    omega (arith, key_is, length-drop it.end it.text.items, c.len-end.ensures, it.text.ok.0)

pub returns-clause-bytes : goal.returns-clause-bytes
returns-clause-bytes c = ap (λ pairs. pairs.bytes) c.self.view_is

pub returns-clause-places : goal.returns-clause-places
returns-clause-places c =
    let room = rw (← c.self.view_is) at c.requires.room in
    omega (arith, room, ap (λ pairs. pairs.places) c.self.view_is)
