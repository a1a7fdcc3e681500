-- How the pairs of a map are stored: all keys and values in one text, and in one list of words the
-- nodes of a skip list. A node is the offset of its links, one for each height of its tower. In the
-- four words before them are where its key begins in the text, the lengths of its key and of its
-- value, and the height of its tower. The first node is a head with all twelve links, which has no
-- pair. A link is the next node of its height, or 0 at the end.
use Rattle.std.specs.Prelude.{Result, OnOk, OnErr, IfErr, take, ◌⊎◌, ◌*◌, ◌^◌, ◌≡◌, ◌≢◌, ℕ, zero}
use Rattle.std.specs.Prelude.{suc, ◌+◌, ◌-◌, ◌<◌, ◌≤◌, List, [], ◌∷◌, length, map, filter, nat_eq}
use Rattle.std.specs.Prelude.{nat_lt, sum_by, slice_range, slice_index, replicate, All}
use Rattle.std.specs.Prelude.{if◌then◌else◌}
use Rattle.leveldb_base.specs.Error.{IsOutOfMemory}
use Rattle.leveldb_base.specs.declared.error.Status.{Status}
use Rattle.leveldb_base.specs.declared.error.StatusCode.TheVariants.{NotSupported}
use Rattle.leveldb_base.specs.Types.{Pair}

-- pairs, what comes after them of a pair that is to come, room for `places` pairs and `bytes`
-- bytes, and the nodes of the pairs, in their order, among the words
pub record Placed : Type 0 where
  -- the pairs, in order
  pub pairs : List Pair
  -- what there is in the text of a pair that is to come
  pub tail : List ℕ
  -- for how many more pairs there is room
  pub places : ℕ
  -- and for how many bytes in the text
  pub bytes : ℕ
  -- the nodes of the pairs, in order
  pub order : List ℕ
  -- the words in which the nodes are
  pub words : List ℕ

-- the first node, which has no pair
abbrev pub head : ℕ
head = 4

-- the words of the first node, without links
abbrev pub head_words : List ℕ
head_words = 0 ∷ 0 ∷ 0 ∷ 12 ∷ replicate 12 0

-- the most links of a node
abbrev pub most_height : ℕ
most_height = 12

-- how many links a node has
abbrev pub tower : List ℕ → ℕ → ℕ
tower words node = slice_index words (node - 1)

-- the link of a node at a height
abbrev pub link : List ℕ → ℕ → ℕ → ℕ
link words height node = slice_index words (node + height)

-- where the key of a node begins in the text
abbrev pub key_start : List ℕ → ℕ → ℕ
key_start words node = slice_index words (node - 4)

-- where it ends and the value begins
abbrev pub key_end : List ℕ → ℕ → ℕ
key_end words node = key_start words node + slice_index words (node - 3)

-- where the value ends
abbrev pub value_end : List ℕ → ℕ → ℕ
value_end words node = key_end words node + slice_index words (node - 2)

-- the key and the value of a node
abbrev pub pair_of_node : List ℕ → List ℕ → ℕ → Pair
pair_of_node text words node = (
  slice_range text (key_start words node) (key_end words node),
  slice_range text (key_end words node) (value_end words node),
)

-- the pairs of these nodes
abbrev pub pairs_of_nodes : List ℕ → List ℕ → List ℕ → List Pair
pairs_of_nodes text words nodes = map (pair_of_node text words) nodes

-- `count` nodes that follow a node at the lowest height
abbrev pub nodes_after : List ℕ → ℕ → ℕ → List ℕ
nodes_after words node zero = []
nodes_after words node (suc count) = link words 0 node ∷ nodes_after words (link words 0 node) count

-- those of these nodes that have a link at the height
abbrev pub level : List ℕ → ℕ → List ℕ → List ℕ
level words height nodes = filter (λ node. nat_lt height (tower words node)) nodes

-- the first of these nodes, or 0
abbrev pub first_of_nodes : List ℕ → ℕ
first_of_nodes [] = 0
first_of_nodes (node ∷ nodes) = node

-- the last of these nodes, or the one before them
abbrev pub last_after : ℕ → List ℕ → ℕ
last_after node [] = node
last_after node (next ∷ nodes) = last_after next nodes

-- each of these nodes is linked to the next at the height, and the last to none
abbrev pub AreLinkedAt : List ℕ → ℕ → List ℕ → Type 0
AreLinkedAt words height [] = Unit {0}
AreLinkedAt words height (node ∷ nodes) = (link words height node ≡ first_of_nodes nodes)
    × AreLinkedAt words height nodes

-- two nodes share no word
pub record IsApart (words : List ℕ) (a b : ℕ) : Type 0 where
  -- they are two
  pub other : a ≢ b
  -- the tower of the lower one ends before the four words of the other
  pub before : a < b → a + tower words a + 4 ≤ b
  -- the same the other way round
  pub after : b < a → b + tower words b + 4 ≤ a

-- nor do any two of these
abbrev pub AreApart : List ℕ → List ℕ → Type 0
AreApart words [] = Unit {0}
AreApart words (node ∷ nodes) = All (IsApart words node) nodes × AreApart words nodes

-- the node is within the words and cuts the text before this offset
pub record IsNode (words : List ℕ) (end node : ℕ) : Type 0 where
  -- four words come before it
  pub low : 4 ≤ node
  -- it has a link at least
  pub linked : 0 < tower words node
  -- and no more than there are heights
  pub limited : tower words node ≤ most_height
  -- its links are within the words
  pub within : node + tower words node ≤ length words
  -- its value ends before the offset
  pub cut : value_end words node ≤ end

-- A skip list with these nodes, in order: at each height those whose towers are high enough are
-- linked.
pub record IsSkipList (words : List ℕ) (end : ℕ) (nodes : List ℕ) : Type 0 where
  -- the head has all links
  pub high : tower words head ≡ most_height
  -- each node is within the words and the text
  pub valid : All (IsNode words end) (head ∷ nodes)
  -- no two share a word
  pub apart : AreApart words (head ∷ nodes)
  -- each height links the nodes that are high enough, in order
  pub levels : (height : ℕ) → height < most_height
      → AreLinkedAt words height (level words height (head ∷ nodes))

-- at each height the last of the head and these nodes, as which a new node comes in after them
abbrev pub IsPathTo : List ℕ → List ℕ → ℕ → List ℕ → Type 0
IsPathTo words path from front =
    (height : ℕ) → height < from
    → slice_index path height ≡ last_after head (level words height front)

-- how many nodes are before this one
abbrev pub rank : List ℕ → ℕ → ℕ
rank [] node = 0
rank (first ∷ nodes) node = if nat_eq first node then 0 else suc (rank nodes node)

-- the node is at this index of the list, or is 0 where the list ends before it
pub record IsAt (nodes : List ℕ) (index node : ℕ) : Type 0 where
  -- a node that is there has this rank
  pub there : index < length nodes → (rank nodes node ≡ index) × (0 < node)
  -- and 0 is past the end
  pub none : length nodes ≤ index → node ≡ 0

-- the index of the pair that a new node with this path comes to
abbrev pub place_of : List ℕ → List ℕ → ℕ
place_of nodes path = rank (head ∷ nodes) (slice_index path 0)

-- how many bytes the keys and values have together
abbrev pub pairs_length : List Pair → ℕ
pairs_length pairs = sum_by (λ pair. length pair.0 + length pair.1) pairs

-- What a map's pairs are: the head is there before the first node, and the pairs fill the text up
-- to its end.
pub record IsLaid (text words last : List ℕ) (count end : ℕ) : Type 0 where
  -- the end is within the text
  pub within : end ≤ length text
  -- no words, no pairs
  pub none : length words ≡ 0 → count ≡ 0
  -- there are no more pairs than words
  pub counted : count ≤ length words
  -- the nodes after the head are a skip list
  pub linked : 0 < length words → IsSkipList words end (nodes_after words head count)
  -- the last node of each height is known, after which a rising key comes
  pub lasts : IsPathTo words last most_height (nodes_after words head count)
  -- keys and values fill the text up to the end
  pub filled : pairs_length (pairs_of_nodes text words (nodes_after words head count)) ≡ end

-- ---- room

-- what counts as memory: 128, and for each pair 64 and the lengths of key and value
abbrev pub map_memory : List Pair → ℕ
map_memory pairs = 128 + (64 * length pairs + pairs_length pairs)

-- Why no room was made for `count` pairs with `bytes` bytes: memory is out, or 32 bits can't number
-- them, which takes pairs that would count for 2^32 bytes of memory.
abbrev pub FailsToReserve : List Pair → ℕ → ℕ → Status → Type 0
FailsToReserve pairs count bytes status =
    ((status.code ≡ NotSupported) × (2 ^ 32 ≤ map_memory pairs + (64 * count + bytes)))
    ⊎ IsOutOfMemory status

-- what making room for `count` pairs with `size` bytes returns and leaves
pub record MakesRoomForPairs (old : Placed) (count size : ℕ) (result : Result (Unit {0}) Status)
    (new : Placed) : Type 0 where
  -- the pairs stay
  pub pairs : new.pairs ≡ old.pairs
  -- and their nodes
  pub order : new.order ≡ old.order
  -- a path to a node is one still
  pub paths : (path : List ℕ) (at : ℕ) → IsPathTo old.words path 12 (take at old.order)
      → IsPathTo new.words path 12 (take at new.order)
  -- what there is of a pair to come stays
  pub tail : new.tail ≡ old.tail
  -- an Ok has the room
  pub ok : OnOk result ((new.places ≡ count) × (size ≤ new.bytes) × (size < 2 ^ 32))
  -- an error leaves the room
  pub err : OnErr result (new.places ≡ old.places)
  -- room for bytes is only added to
  pub bytes : old.bytes ≤ new.bytes
  -- why it failed
  pub cause : IfErr result (FailsToReserve old.pairs count (length old.tail + size))
