-- What is a node's own can be delivered.
use Rattle.std.proofs.Common.{◌≡◌, ℕ, ◌+◌, ◌≤◌, true, false, not, ◌&&◌, List, [], ◌∷◌, ◌++◌, length, Some, None, refl, sym, ap, subst, ◌∙◌, arith, inl, length-append}
use Rattle.std.specs.Prelude.{bytes_eq, codes, decimal, is_some, nat_le}
use Rattle.std.proofs.lemmas.Bool.{and_from, false_from_ne_true, le-leb, not_from_false, or_from}
use Rattle.std.proofs.lemmas.Slice.Eq.{bytes_eq-Decides}
use Rattle.url.proofs.OnLiterals.{url_on_literals}
use Rattle.url.specs.Parser.{parse_url}
use Rattle.addressing.specs.Endpoints.{anonymous, is_within, nobody}
use Rattle.addressing.specs.PostAddresses.{path_in}
use Rattle.arrivals.specs.Worlds.{IsBase}
use Rattle.arrivals.proofs.Bases.{head_is_base}
use Rattle.at_base.specs.IdText.{IsId, id_text}
use Rattle.at_base.specs.Numbers.{Numbers}
use Rattle.at_base.specs.declared.notice.Kind.{Kind}
use Rattle.at_base.specs.declared.notice.Kind.TheVariants as kinds
use Rattle.at_base.specs.declared.target.Target.{Target}
use Rattle.at_base.specs.declared.target.Target.TheVariants as targets
use Rattle.at_model.specs.Create.{identifier_of}
use Rattle.context.specs.Bodies.{is_identifier}
use Rattle.endpoints.specs.Addresses.{IsWritten, atomic, completion_protocol, endpoint_of, path_of, protocol_of, target_of}
use Rattle.endpoints.proofs.Inverses.{target_back}
use Rattle.provenance.specs.Forms.{HaveOwn}
use Rattle.soap_profile.specs.Values.{is_empty}
use Rattle.wire_msgs.specs.WholeMessages.{IsClean}
use Rattle.deliverables.specs.Bases.{IsNodeBase}
use Rattle.deliverables.specs.Deliverables.{IsDeliverable, NodesOwnIsDeliverable, deliverable}
use Rattle.deliverables.proofs.HeadTexts.{head_visible}
use Rattle.deliverables.proofs.OwnAddresses.{goes_under}
use Rattle.deliverables.proofs.OwnPaths.{id_short, id_visible, message_id_clean, path_short, path_some, path_visible}
use Rattle.deliverables.proofs.VisibleTexts.{AreVisible, visible_both, visible_clean}

some_behind : (front text : List ℕ) → is_empty text ≡ false → is_empty (front ++ text) ≡ false
some_behind [] text k = k
some_behind (c ∷ cs) text k = refl

-- a text with something in it, and a count within its bound
within_bound : (text : List ℕ) (count most : ℕ) → is_empty text ≡ false → count ≤ most → (not (is_empty text) && nat_le count most) ≡ true
within_bound text count most some short = and_from (not (is_empty text)) (nat_le count most) (not_from_false (is_empty text) some) (le-leb count most short)

-- an address that is none of a node's own
elsewhere : (base address path : List ℕ) (own : Target) → IsBase base → IsWritten own → path_in (parse_url None address) ≡ Some path → target_of path ≡ None
    → bytes_eq (base ++ path_of own) address ≡ false
elsewhere base address path own is w there none = false_from_ne_true (bytes_eq (base ++ path_of own) address) (λ t. differ ((bytes_eq-Decides (base ++ path_of own) address).0 t))
  where
    named : target_of (path_of own) ≡ Some own
    named = target_back own w

    differ : base ++ path_of own ≡ address → ⊥
    differ e =
        let same : Some (path_of own) ≡ Some path = sym (is (path_of own) own named) ∙ (ap (λ (bytes : List ℕ). path_in (parse_url None bytes)) e ∙ there) in
        let one : path_of own ≡ path = cc in
        let lost : Some own ≡ None = sym named ∙ (ap target_of one ∙ none) in
        absurd cc

anonymous_path : path_in (parse_url None anonymous) ≡ Some (codes "/2005/08/addressing/anonymous")
unfolding url_on_literals
anonymous_path = refl

nobody_path : path_in (parse_url None nobody) ≡ Some (codes "/2005/08/addressing/none")
unfolding url_on_literals
nobody_path = refl

module _ (base : List ℕ) (h : IsNodeBase base) where
  base_is : IsBase base
  base_is = subst IsBase (sym h.is) (head_is_base h.url h.valid h.http)

  base_visible : AreVisible base
  base_visible = subst AreVisible (sym h.is) (head_visible h.url h.valid h.http)

  under : (text : List ℕ) → AreVisible text → IsClean (base ++ text)
  under text v = visible_clean (base ++ text) (visible_both base text base_visible v)

  short : (text : List ℕ) → length text ≤ 64 → length (base ++ text) ≤ 2048
  short text k = omega (arith, length-append base text, h.short)

  own_is : (own : Target) → IsWritten own → IsDeliverable (endpoint_of base own)
  own_is own w = record {
    whole = record {
      kept = record {
        trimmed = (under (path_of own) (path_visible own w)).trimmed;
        within = bounded;
        params = inl refl;
      };
      spelled = (under (path_of own) (path_visible own w)).spelled;
    };
    somewhere = or_from (bytes_eq (base ++ path_of own) anonymous) (bytes_eq (base ++ path_of own) nobody)
        (elsewhere base anonymous (codes "/2005/08/addressing/anonymous") own base_is w anonymous_path refl)
        (elsewhere base nobody (codes "/2005/08/addressing/none") own base_is w nobody_path refl);
    postable = ap is_some (goes_under base h.url (path_of own) own h.valid h.http h.is (target_back own w));
  }
    where
      bounded : is_within (base ++ path_of own) [] ≡ true
      bounded =
          within_bound (base ++ path_of own) (length (base ++ path_of own) + 0) 2048 (some_behind base (path_of own) (path_some own)) (omega (arith, short (path_of own) (path_short own w)))

  identifier_clean : (id : Numbers) → IsId id → IsClean (identifier_of base id)
  identifier_clean id i = under (codes "/t/" ++ id_text id) (id_visible id i)

  identifier_within : (id : Numbers) → IsId id → is_identifier (identifier_of base id) ≡ true
  identifier_within id i =
      within_bound (identifier_of base id) (length (identifier_of base id)) 2048 (some_behind base (codes "/t/" ++ id_text id) refl) (short (codes "/t/" ++ id_text id) (omega (arith, id_short id i)))

  have_own : HaveOwn deliverable base
  have_own = record {
    endpoints = own_is;
    contexts = λ identifier expires id named lasts i. record {
      whole = record {
        identifier = named.clean;
        within = named.within;
        expires = lasts;
        coordination = visible_clean atomic refl;
        registration = (own_is (targets.Registration id) i).whole;
      };
      registration = own_is (targets.Registration id) i;
    };
    parts = λ c k. (record { clean = k.whole.identifier; within = k.whole.within }, k.whole.expires, k.registration);
    identifiers = λ id i. record { clean = identifier_clean id i; within = identifier_within id i };
    no_span = tt;
    creates = λ own. message_id_clean (base ++ (path_of own ++ codes "#create"));
    registers = λ own. message_id_clean (base ++ (path_of own ++ codes "#register"));
    works = λ own n. message_id_clean (base ++ (path_of own ++ (codes "#work-" ++ decimal n)));
    atomic_type = visible_clean atomic refl;
    protocols = protocol_clean;
    completion = visible_clean completion_protocol refl;
  }
    where
      protocol_clean : (kind : Kind) → IsClean (protocol_of kind)
      protocol_clean kinds.Durable = visible_clean (protocol_of kinds.Durable) refl
      protocol_clean kinds.Volatile = visible_clean (protocol_of kinds.Volatile) refl

pub own_is_deliverable : NodesOwnIsDeliverable
own_is_deliverable base h = have_own base h
