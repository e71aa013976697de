use Rattle.std.proofs.Common.{Err, Ok, arith}
use Rattle.node_at.proofs.StartedNodes.{begin_failed, begins_in, begun_start, book_in, is_later, is_started, kept_start, next_in, no_room, node_same, not_next, open_generation, order_start, promises_start, sound_start, started_same}
use Rattle.node_at.proofs.start.start.Goals as goal

pub returns-in-Err-next-clause-starts : goal.returns-in-Err-next-clause-starts
returns-in-Err-next-clause-starts g c =
    let h = c.in-Ok.ensures in
    not_next c.in-Ok.opened c.args.limit c.in-Err-next.fault _ _ h (next_in c.in-Ok.opened c.args.limit (Err c.in-Err-next.fault) _ _ h c.in-Err-next.ensures)

pub recover-requires : goal.recover-requires
recover-requires g c =
    let h = c.in-Ok.ensures in
    record { later = is_later c.in-Ok.opened c.args.limit c.in-Ok-next.incarnation _ _ h (next_in c.in-Ok.opened c.args.limit (Ok c.in-Ok-next.incarnation) _ _ h c.in-Ok-next.ensures) }

pub returns-in-Err-recover-clause-starts : goal.returns-in-Err-recover-clause-starts
returns-in-Err-recover-clause-starts g c = no_room c.in-Ok.opened c.args.limit _ _ c.in-Ok.ensures

pub begin-requires-clause-generation : goal.begin-requires-clause-generation
begin-requires-clause-generation g c = let h = c.in-Ok.ensures in open_generation _ _ _ _ h.holds

pub begin-requires-clause-incarnation : goal.begin-requires-clause-incarnation
begin-requires-clause-incarnation g c =
    let h = c.in-Ok.ensures in
    let x = next_in c.in-Ok.opened c.args.limit (Ok c.in-Ok-next.incarnation) _ _ h c.in-Ok-next.ensures in
    let y = x.0 in
    omega (arith, y)

pub returns-in-Ok-begin-clause-starts : goal.returns-in-Ok-begin-clause-starts
returns-in-Ok-begin-clause-starts g c =
    let h = c.in-Ok.ensures in
    let o = c.in-Ok.opened in
    let n = c.in-Ok-next.incarnation in
    let x = next_in o c.args.limit (Ok n) _ _ h c.in-Ok-next.ensures in
    let b = begins_in o c.begin.new.self c.args.limit n _ _ _ _ h x c.in-Ok-begin.ensures in
    (started_same c.node_of.ensures.seen (is_started o c.begin.new.self c.args.base.now c.args.limit n c.in-Ok-recover.book _ _ _ h x (book_in o c.args.base.now c.args.limit n c.in-Ok-recover.book _ _ h c.shrinks_the_same.ensures c.in-Ok-recover.ensures) b), c.node_of.ensures.role)

pub returns-in-Ok-begin-clause-node : goal.returns-in-Ok-begin-clause-node
returns-in-Ok-begin-clause-node g c =
    let h = c.in-Ok.ensures in
    let o = c.in-Ok.opened in
    let n = c.in-Ok-next.incarnation in
    let same = c.shrinks_the_same.ensures in
    let x = next_in o c.args.limit (Ok n) _ _ h c.in-Ok-next.ensures in
    let b = begins_in o c.begin.new.self c.args.limit n _ _ _ _ h x c.in-Ok-begin.ensures in
    let book = book_in o c.args.base.now c.args.limit n c.in-Ok-recover.book _ _ h same c.in-Ok-recover.ensures in
    node_same c.node_of.ensures.seen (record {
      sound = sound_start o c.begin.new.self c.args.base.now c.args.limit n c.in-Ok-recover.book _ _ _ h c.records_are_well_formed.ensures c.grows_by_one.ensures same x book b;
      kept = kept_start h.rs _ o c.begin.new.self _ _ b;
      promises = promises_start o c.begin.new.self c.args.base.now c.args.limit n c.in-Ok-recover.book _ _ _ h c.promises_stay.ensures x book
          (order_start o c.begin.new.self c.args.base.now c.args.limit n c.in-Ok-recover.book _ _ h c.ids_rise.ensures same x book) b;
      sure = b.holds.sure;
      begun = begun_start _ b.holds;
    })

pub returns-in-Err-begin-clause-starts : goal.returns-in-Err-begin-clause-starts
returns-in-Err-begin-clause-starts g c =
    let h = c.in-Ok.ensures in
    let o = c.in-Ok.opened in
    let n = c.in-Ok-next.incarnation in
    let x = next_in o c.args.limit (Ok n) _ _ h c.in-Ok-next.ensures in
    begin_failed o c.begin.new.self c.args.limit n c.in-Err-begin.fault _ _ _ h x (begins_in o c.begin.new.self c.args.limit n _ _ _ _ h x c.in-Err-begin.ensures)
