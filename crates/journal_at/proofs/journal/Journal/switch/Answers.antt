use Rattle.std.proofs.Common.{◌+◌, ◌-◌, ◌∷◌, ◌∙◌, ap, arith, length, refl, sym}
use Rattle.journal_at.specs.Compactions.{prepare_calls}
use Rattle.journal_at.specs.Format.{mark_body}
use Rattle.journal_at.proofs.NewJournals.{some_before}
use Rattle.journal_at.proofs.SpareFiles.{flips}
use Rattle.journal_at.proofs.FileSwitches.{fills_of, later_generation, later_listed, moves_done, moves_kept, moves_unsure, newer_of, opened_spare, opened_stands, past_of, raise_image, raise_past, safe_of, saved_of, text_length}
use Rattle.journal_at.proofs.journal.Journal.switch.Goals as goal

pub returns-in-Err-clause-compacted : goal.returns-in-Err-clause-compacted
returns-in-Err-clause-compacted g c bodies texts keeps least is sized unmarked =
    let some = some_before bodies c.args.self.now.end keeps.end least in
    let flip = flips c.args.self.now.live c.args.self.now.two in
    let safe = safe_of c.args.self.now bodies _ keeps some in
    let saved = saved_of c.prepare.result _ c.prepare.new.unshut c.args.self.now.live bodies c.args.text.now _ c.in-Err.is (c.prepare.ensures.prepares c.args.self.now.live bodies flip safe) in
    record {
      leaves = record { stands = saved.stands; spare = saved.spare; end = keeps.end; generation = keeps.generation };
      time = c.prepare.ensures.time c.args.self.now.live bodies flip safe;
    }

pub returns-in-Err-raise_gate-clause-compacted : goal.returns-in-Err-raise_gate-clause-compacted
returns-in-Err-raise_gate-clause-compacted g c bodies texts keeps least is sized unmarked =
    let some = some_before bodies c.args.self.now.end keeps.end least in
    let flip = flips c.args.self.now.live c.args.self.now.two in
    let safe = safe_of c.args.self.now bodies _ keeps some in
    let newer = newer_of c.args.self.now bodies texts _ keeps c.requires in
    let fills = fills_of c.prepare.result _ c.prepare.new.unshut c.args.self.now.live bodies c.args.text.now _ c.in-Ok.is (c.prepare.ensures.prepares c.args.self.now.live bodies flip safe) in
    record {
      leaves = λ z im. raise_image c.args.self.now.live (1 - c.args.self.now.live) flip bodies texts (c.args.self.now.generation + 1) c.args.text.now is keeps.stands.listed newer some _ (g.S.Site.told c.raise_gate.new.self) fills z (c.raise_gate.ensures.images z im);
      time = past_of _ _ _ c.args.self.now.live (1 - c.args.self.now.live) bodies (mark_body (c.args.self.now.generation + 1) ∷ texts) c.prepare.result c.raise_gate.result (prepare_calls c.args.self.now.unshut (1 - c.args.self.now.live) c.args.text.now) c.prepare.ensures.readies.acts c.raise_gate.ensures
          (c.prepare.ensures.time c.args.self.now.live bodies flip safe)
          (raise_past c.args.self.now.live (1 - c.args.self.now.live) flip bodies texts (c.args.self.now.generation + 1) c.args.text.now is keeps.stands.listed newer some _ _ fills c.raise_gate.result c.raise_gate.ensures);
    }

pub returns-in-Err-clause-moves : goal.returns-in-Err-clause-moves
returns-in-Err-clause-moves g c = moves_kept c.args.text.now c.args.self.now _ _ _ c.prepare.result _ c.in-Err.is c.prepare.ensures.readies (refl, refl) refl

pub returns-in-Err-raise_gate-clause-moves : goal.returns-in-Err-raise_gate-clause-moves
returns-in-Err-raise_gate-clause-moves g c =
    moves_unsure c.args.text.now c.args.self.now _ _ _ _ c.prepare.result _ c.raise_gate.result _ c.in-Ok.is c.in-Err-raise_gate.is c.prepare.ensures.readies.acts c.raise_gate.ensures (refl, refl) refl c.in-Ok.ensures.flag

pub returns-clause-moves : goal.returns-clause-moves
returns-clause-moves g c =
    moves_done c.args.text.now c.args.self.now _ _ _ _ c.prepare.result _ c.raise_gate.result _ c.in-Ok.is c.in-Ok-raise_gate.is c.prepare.ensures.readies.acts c.raise_gate.ensures (refl, refl) refl c.has_bodies-self.ensures.more c.has_bodies-self.ensures.none

pub returns-clause-compacted : goal.returns-clause-compacted
returns-clause-compacted g c bodies texts keeps least is sized unmarked =
    let some = some_before bodies c.args.self.now.end keeps.end least in
    let flip = flips c.args.self.now.live c.args.self.now.two in
    let safe = safe_of c.args.self.now bodies _ keeps some in
    let newer = newer_of c.args.self.now bodies texts _ keeps c.requires in
    let next = c.args.self.now.generation + 1 in
    let fills = fills_of c.prepare.result _ c.prepare.new.unshut c.args.self.now.live bodies c.args.text.now _ c.in-Ok.is (c.prepare.ensures.prepares c.args.self.now.live bodies flip safe) in
    record {
      leaves = record {
        stands = opened_stands c.args.self.now.live (1 - c.args.self.now.live) flip bodies texts next c.args.text.now is keeps.stands.listed newer some _ _ fills c.raise_gate.result _ c.in-Ok-raise_gate.is c.raise_gate.ensures (later_listed next texts sized unmarked);
        spare = opened_spare c.args.self.now.live (1 - c.args.self.now.live) flip bodies texts next c.args.text.now is keeps.stands.listed newer some _ _ fills c.raise_gate.result _ c.in-Ok-raise_gate.is c.raise_gate.ensures c.has_bodies-self.result c.args.self.now.end keeps.end c.has_bodies-self.ensures.more c.has_bodies-self.ensures.none;
        end = ap length is ∙ text_length next texts;
        generation = sym (later_generation next texts (omega (arith, c.requires)));
      };
      time = past_of _ _ _ c.args.self.now.live (1 - c.args.self.now.live) bodies (mark_body next ∷ texts) c.prepare.result c.raise_gate.result (prepare_calls c.args.self.now.unshut (1 - c.args.self.now.live) c.args.text.now) c.prepare.ensures.readies.acts c.raise_gate.ensures
          (c.prepare.ensures.time c.args.self.now.live bodies flip safe)
          (raise_past c.args.self.now.live (1 - c.args.self.now.live) flip bodies texts next c.args.text.now is keeps.stands.listed newer some _ _ fills c.raise_gate.result c.raise_gate.ensures);
    }
