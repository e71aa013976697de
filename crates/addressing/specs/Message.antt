-- What the header blocks of a message say (WS-Addressing 1.0 Core, section 3.1).
use Rattle.std.specs.Prelude.{ℕ, List, Option, refl}
use Rattle.std.specs.Coded.{Coded, code_by, coded×, coded_list, coded_option, coded_ℕ}
use Rattle.xml_profile.specs.declared.tree.Tree.{Tree}
use Rattle.xml_profile.specs.contracts.tree.Tree.{the_row as tree_row}
use Rattle.at_base.specs.declared.epr.Epr.{Epr}
use Rattle.at_base.specs.contracts.epr.Epr.{the_row as epr_row}

pub record Headers : Type 0 where
  -- the destination, absent where it is anonymous
  pub to : Option (List ℕ)
  pub action : List ℕ
  pub id : Option (List ℕ)
  -- the id of the message that this one replies to
  pub relates : Option (List ℕ)
  -- absent where it is anonymous or none
  pub from : Option Epr
  pub reply : Option Epr
  pub fault : Option Epr
  -- the element of a coordination context (WS-Coordination 1.2, section 2)
  pub context : Option Tree

-- how the logic stores the record: no clause cites it

abbrev Texts : Type 0
Texts = List ℕ × (Option (List ℕ) × (Option (List ℕ) × Option (List ℕ)))

abbrev Places : Type 0
Places = Option Epr × (Option Epr × (Option Epr × Option Tree))

abbrev coded_text : Coded (List ℕ)
coded_text = coded_list coded_ℕ

abbrev coded_texts : Coded Texts
coded_texts = coded× coded_text (coded× (coded_option coded_text) (coded× (coded_option coded_text) (coded_option coded_text)))

abbrev coded_places : Coded Places
coded_places =
    coded× (coded_option epr_row.coded) (coded× (coded_option epr_row.coded) (coded× (coded_option epr_row.coded) (coded_option tree_row.coded)))

abbrev pub coded_headers : Coded Headers
coded_headers =
    code_by (Texts × Places) (coded× coded_texts coded_places)
    (λ h. ((h.action, (h.to, (h.id, h.relates))), (h.from, (h.reply, (h.fault, h.context)))))
    (λ p. record {
      to = p.0.1.0;
      action = p.0.0;
      id = p.0.1.1.0;
      relates = p.0.1.1.1;
      from = p.1.0;
      reply = p.1.1.0;
      fault = p.1.1.1.0;
      context = p.1.1.1.1;
    })
    (λ _. refl)
