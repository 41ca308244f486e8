-- Changes are gathered from a list of appointments, one after the other.
use Prim.Native.Nat.{ℕ, ◌+◌, ◌<◌, ◌≤◌}
use mathlib.Core.Path.{◌≡◌, sym, ap, ◌∙◌}
use mathlib.Core.Bool.{Bool, true, false}
use mathlib.Core.List.{List, [], ◌∷◌, ◌++◌, append_assoc, append-nil}
use native.Mathlib.Omega.{arith}
use lib.ListN.{length, set}
use Rattle.index.specs.Message.{Half, packed_change}
use Rattle.index.specs.work.Edits.{change_of}
use Rattle.index.specs.work.Pairing.{Listing}
use Rattle.index.proofs.laws.message.PairsListed.{listing_none, listing_more}
use Rattle.appointments.specs.Appointment.{list_size, appointment_at, only_on, those, standing_only}
use Rattle.appointments.proofs.laws.Rest.{rest, rest_all, rest_more, rest_none}
use Rattle.appointments.proofs.laws.Picked.{those_yes, those_no}

module _ (l : List ℕ) (adds : Bool) (day other at : ℕ) (cs₀ : List ℕ) where
  -- Those among the first i are listed up to this place, and the others follow in the list of all.
  pub record Gathered (i place : ℕ) (cs : List ℕ) : Type 0 where
    pub done : List Half
    pub listing : Listing adds at place done cs₀ cs
    pub all : done ++ those (only_on day other) (rest l i) ≡ standing_only l day other
    pub fits : place + length (those (only_on day other) (rest l i)) ≡ at + length (standing_only l day other)

  pub gathered_none : Gathered 0 at cs₀
  unfolding standing_only
  gathered_none =
      record {
        done = [];
        listing = listing_none adds at cs₀;
        all = ap (those (only_on day other)) (rest_all l);
        fits = ap (λ all. at + length (those (only_on day other) all)) (rest_all l);
      }

  module _ (i place : ℕ) (cs : List ℕ) (g : Gathered i place cs) (h : i < list_size l) where
    pub gathered_room : only_on day other (appointment_at l i) ≡ true → at + length (standing_only l day other) ≤ length cs₀ → place < length cs
    gathered_room e room =
        let f = rw (rest_more l i h, those_yes (only_on day other) (appointment_at l i) (rest l (i + 1)) e) at g.fits in
        omega (arith, f, g.listing.same_length)

    pub gathered_one : only_on day other (appointment_at l i) ≡ true → (v : ℕ) → place < length cs
        → packed_change v ≡ change_of adds (appointment_at l i).membership → Gathered (i + 1) (place + 1) (set cs place v)
    gathered_one e v below is =
        let m = (appointment_at l i).membership in
        let all = rw (rest_more l i h, those_yes (only_on day other) (appointment_at l i) (rest l (i + 1)) e) at g.all in
        let f = rw (rest_more l i h, those_yes (only_on day other) (appointment_at l i) (rest l (i + 1)) e) at g.fits in
        record {
          done = g.done ++ (m ∷ []);
          listing = listing_more v m g.listing below is;
          all = rw append_assoc all;
          fits = omega (arith, f);
        }

    pub gathered_other : only_on day other (appointment_at l i) ≡ false → Gathered (i + 1) place cs
    gathered_other e =
        let all = rw (rest_more l i h, those_no (only_on day other) (appointment_at l i) (rest l (i + 1)) e) at g.all in
        let f = rw (rest_more l i h, those_no (only_on day other) (appointment_at l i) (rest l (i + 1)) e) at g.fits in
        record { done = g.done; listing = g.listing; all = all; fits = f }

  pub gathered_all : (i place : ℕ) (cs : List ℕ) → Gathered i place cs → list_size l ≤ i
      → (place ≡ at + length (standing_only l day other)) × Listing adds at place (standing_only l day other) cs₀ cs
  unfolding those
  gathered_all i place cs g h =
      let all : g.done ++ [] ≡ standing_only l day other = rw (rest_none l i h) at g.all in
      let f : place + 0 ≡ at + length (standing_only l day other) = rw (rest_none l i h) at g.fits in
      (omega (arith, f), rw (sym (append-nil g.done) ∙ all) at g.listing)
