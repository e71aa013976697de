-- What is whole keeps the bounds of a record.
use Rattle.std.proofs.Common.{inl, inr, ◌≡◌, refl, sym, subst, arith, ℕ, ◌+◌, ◌≤◌, List, [], ◌∷◌, length, true, not, nat_le}
use Rattle.std.specs.Prelude.{◌⊎◌}
use Rattle.std.specs.List.{list_all}
use Rattle.std.specs.Str.{chars, is_utf8}
use Rattle.std.proofs.lemmas.Bool.{leb-true}
use Rattle.at_base.specs.declared.limits.TheConstants.{MOST_ENDPOINT, MOST_FIELD}
use Rattle.at_base.specs.Chars.{is_xml_char, IsXmlText}
use Rattle.at_base.specs.WellFormed.{IsEndpoint, IsField}
use Rattle.at_base.specs.declared.epr.Epr.{Epr}
use Rattle.at_base.specs.declared.message.Message.{Message}
use Rattle.at_base.specs.declared.message.Message.TheVariants as messages
use Rattle.xml_profile.specs.declared.tree.Tree.{Tree}
use Rattle.xml_profile.specs.SpellableTrees.{is_text}
use Rattle.xml_roundtrip.proofs.Bools.{and_true}
use Rattle.soap_profile.specs.Values.{is_empty}
use Rattle.addressing.specs.StoredEndpoints.{AreKept}
use Rattle.model_laws.specs.BookBounds.{IsSoundMessage}
use Rattle.wire_msgs.specs.declared.decode.Arrival.{Arrival}
use Rattle.wire_msgs.specs.WholeMessages.{IsClean, IsWhole, IsWholeEndpoint, IsWholeMessage}

text_characters : (text : List ℕ) → is_text text ≡ true → IsXmlText text
text_characters text h = (and_true (is_utf8 text) (list_all is_xml_char (chars text)) h).1

nothing_spelled : IsXmlText []
unfolding chars
nothing_spelled = refl

params_characters : (params : List ℕ) → (params ≡ []) ⊎ ((t : Tree) × AreKept params t) → IsXmlText params
params_characters params (inl e) = subst IsXmlText (sym e) nothing_spelled
params_characters params (inr (t, k)) = k.reads.spells.characters

some_byte : (address : List ℕ) → not (is_empty address) ≡ true → 1 ≤ length address
some_byte [] h = absurd cc
some_byte (c ∷ cs) h = omega arith

endpoint_sound : (epr : Epr) → IsWholeEndpoint epr → IsEndpoint epr
endpoint_sound epr w =
    let bound = and_true (not (is_empty epr.address)) (nat_le (length epr.address + length epr.params) MOST_ENDPOINT) w.kept.within in
    record {
      some = some_byte epr.address bound.0;
      fits = leb-true (length epr.address + length epr.params) MOST_ENDPOINT bound.1;
      address = text_characters epr.address w.spelled;
      params = params_characters epr.params w.kept.params;
    }

field_sound : (text : List ℕ) → IsClean text → length text ≤ MOST_FIELD → IsField text
field_sound text c h = record { fits = h; spelled = text_characters text c.spelled }

sound : (message : Message) → IsWholeMessage message → IsSoundMessage message
sound (messages.Create body) w = tt
sound (messages.CreateResponse context) w = tt
sound (messages.Register body) w = endpoint_sound body.participant w.participant
sound (messages.RegisterResponse coordinator) w = endpoint_sound coordinator w
sound (messages.Notice notice) w = tt
sound (messages.Work body) w = (field_sound body.key w.key w.short_key, field_sound body.value w.value w.short_value)
sound messages.WorkDone w = tt
sound messages.WorkRefused w = tt
sound (messages.Fault name) w = tt

pub message_sound : (arrival : Arrival) → IsWhole arrival → IsSoundMessage arrival.message
message_sound arrival w = sound arrival.message w.message
