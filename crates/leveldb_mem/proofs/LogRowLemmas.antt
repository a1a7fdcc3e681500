-- How long the framings of some records are, computed.
use Rattle.std.proofs.Common.{◌≡◌, ◌-◌, [], ◌∷◌, length, map, slice_index, replicate, refl, codes}
use Rattle.leveldb_mem.specs.Log.{fragment_bytes, checksum, fragment_at, framed_record, framed, frame_at}

small_blocks : length (framed 17 (codes "abcdefghi" ∷ codes "123456789012" ∷ codes "0101010101010101010101" ∷ []) 0) ≡ 93
unfolding framed_record fragment_at fragment_bytes checksum
small_blocks = refl

-- seven bytes are left: a First without data, and a Last of one byte
seven_left : length (frame_at 32761 (codes "x")) ≡ 32776 - 32761
unfolding framed_record fragment_at fragment_bytes checksum
seven_left = refl

seven_left_headers : map (λ k. slice_index (frame_at 32761 (codes "x")) k) (4 ∷ 5 ∷ 6 ∷ 11 ∷ 12 ∷ 13 ∷ 14 ∷ []) ≡ 0 ∷ 0 ∷ 2 ∷ 1 ∷ 0 ∷ 4 ∷ codes "x"
unfolding framed_record fragment_at fragment_bytes checksum
seven_left_headers = refl

-- six are left: they are zeros, and a Full comes after them
six_left : length (frame_at 32762 (codes "x")) ≡ 32776 - 32762
unfolding framed_record fragment_at fragment_bytes checksum
six_left = refl

six_left_header : map (λ k. slice_index (frame_at 32762 (codes "x")) k) (0 ∷ 5 ∷ 10 ∷ 11 ∷ 12 ∷ 13 ∷ []) ≡ 0 ∷ 0 ∷ 1 ∷ 0 ∷ 1 ∷ codes "x"
unfolding framed_record fragment_at fragment_bytes checksum
six_left_header = refl

batch_of_seventeen : length (frame_at 0 (replicate 17 0)) ≡ 24
unfolding framed_record fragment_at fragment_bytes checksum
batch_of_seventeen = refl

-- a record that fills a block
one_block : length (frame_at 0 (replicate 32761 0)) ≡ 32768
unfolding framed_record fragment_at fragment_bytes checksum
one_block = refl

-- and one byte more
two_blocks : length (frame_at 0 (replicate 32762 0)) ≡ 32776
unfolding framed_record fragment_at fragment_bytes checksum
two_blocks = refl
