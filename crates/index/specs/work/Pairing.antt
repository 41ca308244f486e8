-- For proofs only: what the functions on the lists of a wide message and on its pairs do.
use Rattle.std.specs.Prelude.{ℕ, ◌+◌, ◌*◌, ◌<◌, ◌≤◌, ◌≡◌, Bool, true, false, List, ◌++◌, map}
use lib.ListN.{length}
use Rattle.index.specs.Message.{Half, present, packed_changes}
use Rattle.index.specs.Wide.{list_count, wide_header, list_length, mask_in, list_offset, list_place, ListGood}
use Rattle.index.specs.work.Edits.{change_of}

-- The header is there, and the lists follow each other without gaps, up to the end of the message.
pub record InPlace (m : List ℕ) : Type 0 where
  pub header : wide_header ≤ length m
  pub offsets : (q : ℕ) → q < list_count → list_offset m q ≡ list_place m q
  pub ends : length m ≡ list_place m list_count

-- Half h as 3 asks it to be, absent or present.
pub record HalfFormed (m : List ℕ) (h : ℕ) : Type 0 where
  pub absent : present m h ≡ false → (list_length m (2 * h) ≡ 0) × (list_length m (2 * h + 1) ≡ 0) × (mask_in m h ≡ 0)
  pub lists : present m h ≡ true → ListGood m (2 * h) × ListGood m (2 * h + 1)

-- A half has at most so many pairs: 8 keys with 8 ids.
abbrev pub most_pairs : ℕ
most_pairs = 64

-- The halves hs, taken away or added, stand in the list from place i to place j, after what stood before.
pub record Listing (adds : Bool) (i j : ℕ) (hs : List Half) (cs cs' : List ℕ) : Type 0 where
  pub same_length : length cs' ≡ length cs
  pub changes : packed_changes (lib.ListN.take j cs') ≡ packed_changes (lib.ListN.take i cs) ++ map (change_of adds) hs
