-- The paths of a node's items and the ids of its requests: visible characters, and few.
use Rattle.std.proofs.Common.{◌≡◌, ℕ, zero, suc, ◌/◌, ◌%◌, ◌^◌, ◌<◌, ◌≤◌, Bool, true, false, cond, List, [], ◌∷◌, ◌++◌, length, refl, arith, length-append}
use Rattle.std.specs.Prelude.{codes, decimal, slice_index, ◌==◌}
use Rattle.std.proofs.lemmas.Bool.{and_from}
use Rattle.std.proofs.lemmas.Fmt.{length-decimal-le}
use Rattle.std.proofs.lemmas.Nat.{mod_below}
use Rattle.url.proofs.SetLemmas.{checked}
use Rattle.uuid.specs.Text.{by_index, digit_place, hex_digit, hyphen, hyphenated_text, is_hyphen_place, lower, nibble, urn_prefix, urn_text}
use Rattle.at_base.specs.IdText.{IsId, id_text}
use Rattle.at_base.specs.IdText.{hyphen as dash}
use Rattle.at_base.specs.MessageId.{message_id_of, version_5}
use Rattle.at_base.specs.Names.{kind_letter}
use Rattle.at_base.specs.Numbers.{Numbers}
use Rattle.at_base.specs.declared.notice.Kind.{Kind}
use Rattle.at_base.specs.declared.notice.Kind.TheVariants as kinds
use Rattle.at_base.specs.declared.target.Target.{Target}
use Rattle.at_base.specs.declared.target.Target.TheVariants as targets
use Rattle.endpoints.specs.Addresses.{IsWritten, path_of}
use Rattle.soap_profile.specs.Values.{is_empty}
use Rattle.uuid.specs.Uuid.{namespace_url}
use Rattle.wire_msgs.specs.WholeMessages.{IsClean}
use Rattle.deliverables.proofs.VisibleTexts.{AreVisible, decimal_visible, is_visible, visible_both, visible_clean}

pub id_visible : (id : Numbers) → IsId id → AreVisible (id_text id)
id_visible id h =
    visible_both (decimal id.incarnation) (dash ∷ decimal id.counter) (decimal_visible id.incarnation (omega (arith, h.incarnation_most)))
    (decimal_visible id.counter (omega (arith, h.counter_most)))

letter_visible : (kind : Kind) → AreVisible (kind_letter kind)
letter_visible kinds.Durable = refl
letter_visible kinds.Volatile = refl

pub path_visible : (own : Target) → IsWritten own → AreVisible (path_of own)
path_visible targets.Activation h = refl
path_visible targets.Work h = refl
path_visible (targets.Registration id) h = id_visible id h
path_visible (targets.Completion id) h = id_visible id h
path_visible (targets.Initiator id) h = id_visible id h
path_visible (targets.Participant id kind) h = visible_both (kind_letter kind) (codes "/" ++ id_text id) (letter_visible kind) (id_visible id h)
path_visible (targets.Coordinator id seat) (h, least, most) =
    visible_both (kind_letter seat.kind) (codes "/" ++ (id_text id ++ (codes "/" ++ decimal seat.number))) (letter_visible seat.kind)
    (visible_both (id_text id) (codes "/" ++ decimal seat.number) (id_visible id h) (decimal_visible seat.number (omega (arith, most))))

pub path_begins : (own : Target) → slice_index (path_of own) 0 ≡ 47
path_begins targets.Activation = refl
path_begins targets.Work = refl
path_begins (targets.Registration id) = refl
path_begins (targets.Completion id) = refl
path_begins (targets.Initiator id) = refl
path_begins (targets.Participant id kind) = refl
path_begins (targets.Coordinator id seat) = refl

pub path_some : (own : Target) → is_empty (path_of own) ≡ false
path_some targets.Activation = refl
path_some targets.Work = refl
path_some (targets.Registration id) = refl
path_some (targets.Completion id) = refl
path_some (targets.Initiator id) = refl
path_some (targets.Participant id kind) = refl
path_some (targets.Coordinator id seat) = refl

number_short : (n : ℕ) → n < 2 ^ 32 → length (decimal n) ≤ 10
number_short n small = length-decimal-le 10 n (omega arith) (omega (arith, small)) (omega (arith, small))

pub id_short : (id : Numbers) → IsId id → length (id_text id) ≤ 21
id_short id h =
    omega (arith, length-append (decimal id.incarnation) (dash ∷ decimal id.counter), number_short id.incarnation h.incarnation_most, number_short id.counter h.counter_most)

letter_short : (kind : Kind) → length (kind_letter kind) ≤ 1
letter_short kinds.Durable = omega arith
letter_short kinds.Volatile = omega arith

pub path_short : (own : Target) → IsWritten own → length (path_of own) ≤ 64
path_short targets.Activation h = omega arith
path_short targets.Work h = omega arith
path_short (targets.Registration id) h = omega (arith, id_short id h)
path_short (targets.Completion id) h = omega (arith, id_short id h)
path_short (targets.Initiator id) h = omega (arith, id_short id h)
path_short (targets.Participant id kind) h = omega (arith, length-append (kind_letter kind) (codes "/" ++ id_text id), letter_short kind, id_short id h)
path_short (targets.Coordinator id seat) (h, least, most) =
    omega (
      arith,
      length-append (kind_letter seat.kind) (codes "/" ++ (id_text id ++ (codes "/" ++ decimal seat.number))),
      letter_short seat.kind,
      length-append (id_text id) (codes "/" ++ decimal seat.number),
      id_short id h,
      number_short seat.number (omega (arith, most)),
    )

-- a message's id: hexadecimal digits and hyphens behind a prefix

place_visible : (xs : List ℕ) (k : ℕ) (at : Bool) → is_visible (cond at hyphen (hex_digit lower (nibble xs k))) ≡ true
place_visible xs k true = refl
place_visible xs k false = checked (λ d. is_visible (hex_digit lower d)) 16 refl (nibble xs k) (half (k % 2 == 0))
  where
    half : (even : Bool) → cond even (slice_index xs (k / 2) / 16 % 16) (slice_index xs (k / 2) % 16) < 16
    half true = mod_below (slice_index xs (k / 2) / 16) 16 (omega arith)
    half false = mod_below (slice_index xs (k / 2)) 16 (omega arith)

all_visible : (n : ℕ) (at : ℕ → ℕ) → ((k : ℕ) → is_visible (at k) ≡ true) → AreVisible (by_index n at)
unfolding by_index
all_visible zero at h = refl
all_visible (suc n) at h = visible_both (by_index n at) (at n ∷ []) (all_visible n at h) (and_from (is_visible (at n)) true (h n) refl)

urn_visible : (xs : List ℕ) → AreVisible (urn_text lower xs)
urn_visible xs =
    visible_both urn_prefix (hyphenated_text lower xs) refl
    (all_visible 36 (λ k. cond (is_hyphen_place k) hyphen (hex_digit lower (nibble xs (digit_place k)))) (λ k. place_visible xs (digit_place k) (is_hyphen_place k)))

pub message_id_clean : (name : List ℕ) → IsClean (message_id_of name)
message_id_clean name = visible_clean (message_id_of name) (urn_visible (version_5 namespace_url name))
