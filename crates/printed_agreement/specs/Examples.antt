-- Lines of reports, and what is read off them.
use Rattle.std.specs.Prelude.{ℕ, List, [], ◌∷◌, codes, refl}
use Rattle.std.specs.Fmt.{digits}
use Rattle.std.proofs.Common.{inl, inr, arith}
use Rattle.at_model.specs.World.{Who}
use Rattle.printed_agreement.specs.PrintedAgreement.{IsSplitIn, Takes, below, itself}

-- the first item of a node
abbrev first_of : ℕ → Who
first_of n = record { node = n; id = record { incarnation = 1; counter = 1 } }

abbrev taken : List (List ℕ)
taken =
    codes "msg 6 3>2 Register /registration/1-1"
    ∷ codes "deliver 6 2 202"
    ∷ codes "msg 7 2>3 RegisterResponse /p/d/1-1"
    ∷ codes "deliver 7 3 202"
    ∷ []

pub a_participant_is_taken : Takes taken (first_of 2) (first_of 3)
unfolding digits
a_participant_is_taken = record {
  number = 6;
  sender = 3;
  status = codes "202";
  answer = 7;
  before = codes "msg 6 3>2 Register /registration/1-1" ∷ [];
  after = codes "deliver 7 3 202" ∷ [];
  asked = inl refl;
  delivered = refl;
  there = omega arith;
}

abbrev split : List (List ℕ)
split =
    codes "msg 6 3>2 Register /registration/1-1"
    ∷ codes "deliver 6 2 202"
    ∷ codes "msg 7 2>3 RegisterResponse /p/d/1-1"
    ∷ codes "root 2 1-1 aborted"
    ∷ codes "leaf 3 1-1 d committed"
    ∷ []

-- such lines would be those of a split
pub a_split_is_seen : IsSplitIn split
unfolding digits
a_split_is_seen = record {
  root = first_of 2;
  one = first_of 3;
  other = first_of 2;
  node = omega arith;
  id = record { incarnation_least = omega arith; incarnation_most = omega arith; counter_least = omega arith; counter_most = omega arith };
  one_of = below (first_of 2) (record {
    number = 6;
    sender = 3;
    status = codes "202";
    answer = 7;
    before = codes "msg 6 3>2 Register /registration/1-1" ∷ [];
    after = codes "root 2 1-1 aborted" ∷ codes "leaf 3 1-1 d committed" ∷ [];
    asked = inl refl;
    delivered = refl;
    there = omega arith;
  }) (itself refl);
  other_of = itself refl;
  committed = inr (inr (inr (inr (inr (inr (inl refl))))));
  aborted = inl (inl (inr (inr (inr (inl refl)))));
}
