use Rattle.std.proofs.Common.{sym, ◌∙◌}
use Rattle.journal_at.proofs.Appends.{same_bytes, refused, lay_time, raise_time, unsure, raised, makes_unsure, end_more}
use Rattle.journal_at.proofs.OtherFiles.{others_laid, others_raised, others_then, spare_more, spare_others}
use Rattle.journal_at.proofs.journal.Journal.append.Goals as goal

pub returns-in_default-clause-appended : goal.returns-in_default-clause-appended
returns-in_default-clause-appended g c bodies sure keeps follows =
    let laid = same_bytes (c.deref.ensures.value ∙ c.frame.ensures.items) c.stage.ensures in
    record {
      after = record { stands = refused c.args.self.now.live bodies c.args.body.now _ _ c.args.self.now.end keeps.end keeps.stands follows c.stage.result _ c.in_default.is laid; spare = spare_others c.args.self.now.unshut c.args.self.now.live bodies _ _ (others_laid c.args.self.now.live _ _ c.stage.result _ _ laid) keeps.spare; end = keeps.end; generation = keeps.generation };
      time = lay_time c.args.self.now.live bodies c.args.body.now _ _ c.args.self.now.end keeps.end keeps.stands follows c.stage.result laid;
    }

pub returns-in_default-raise_gate-clause-appended : goal.returns-in_default-raise_gate-clause-appended
returns-in_default-raise_gate-clause-appended g c bodies sure keeps follows =
    let laid = same_bytes (c.deref.ensures.value ∙ c.frame.ensures.items) c.stage.ensures in
    record {
      after = unsure c.args.self.now.live bodies c.args.body.now _ _ c.args.self.now.end keeps.end keeps.stands follows c.stage.result _ c.in-Ok.is laid _ c.raise_gate.result c.raise_gate.ensures;
      time = raise_time c.args.self.now.live bodies c.args.body.now _ _ c.args.self.now.end keeps.end keeps.stands follows c.stage.result _ c.in-Ok.is laid _ c.raise_gate.result c.raise_gate.ensures;
    }

pub returns-in_default-raise_gate-clause-calls : goal.returns-in_default-raise_gate-clause-calls
returns-in_default-raise_gate-clause-calls g c sure =
    let laid = same_bytes (c.deref.ensures.value ∙ c.frame.ensures.items) c.stage.ensures in
    makes_unsure c.args.self.now.live c.args.self.now.end c.args.body.now c.stage.result _ c.raise_gate.result _ _ _ _ c.in-Ok.is laid c.in_default-raise_gate.is c.raise_gate.ensures

pub returns-clause-appended : goal.returns-clause-appended
returns-clause-appended g c bodies sure keeps follows =
    let laid = same_bytes (c.deref.ensures.value ∙ c.frame.ensures.items) c.stage.ensures in
    record {
      after = record { stands = raised c.args.self.now.live bodies c.args.body.now _ _ c.args.self.now.end keeps.end keeps.stands follows c.stage.result _ c.in-Ok.is laid _ c.raise_gate.result _ c.in-Ok-raise_gate.is c.raise_gate.ensures; spare = spare_more c.args.self.now.unshut c.args.self.now.live bodies _ _ follows.generation (spare_others c.args.self.now.unshut c.args.self.now.live bodies _ _ (others_then c.args.self.now.live _ _ _ (others_laid c.args.self.now.live _ _ c.stage.result _ _ laid) (others_raised c.args.self.now.live _ c.raise_gate.result _ _ c.raise_gate.ensures)) keeps.spare); end = end_more bodies c.args.body.now c.args.self.now.end keeps.end; generation = keeps.generation ∙ sym follows.generation };
      time = raise_time c.args.self.now.live bodies c.args.body.now _ _ c.args.self.now.end keeps.end keeps.stands follows c.stage.result _ c.in-Ok.is laid _ c.raise_gate.result c.raise_gate.ensures;
    }
