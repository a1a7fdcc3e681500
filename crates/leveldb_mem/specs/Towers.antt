-- The height of a new node's tower, drawn from a generator's stream.
use Rattle.std.specs.Prelude.{ℕ, zero, suc, ◌+◌, ◌%◌, nat_eq, if◌then◌else◌}
use Rattle.rand_core.specs.Stream.{Stream, next_u64}

-- one link for each number of the stream that is a multiple of 4, up to the first that isn't, and
-- at most `most`; and the stream after the last number that is drawn
unfoldable pub drawn_links : ℕ → Stream → ℕ × Stream
drawn_links zero stream = (0, stream)
drawn_links (suc most) stream =
    let number = next_u64 stream in
    let more = drawn_links most number.1 in
    if nat_eq (number.0 % 4) 0 then (more.0 + 1, more.1) else (0, number.1)
