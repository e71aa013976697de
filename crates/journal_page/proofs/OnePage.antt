-- Of files that stand for records one page is printed.
use Rattle.std.proofs.Common.{ℕ, List, ◌∷◌, ◌++◌, ◌≡◌, inl, inr, sym, subst, ap, ◌∙◌, drop}
use Rattle.std.proofs.lemmas.List.{drop-map, map-append}
use Rattle.decision_log.specs.Folds.{AreRecords}
use Rattle.journal_at.specs.Format.{head_of, records_of}
use Rattle.journal_at.specs.Frames.{bodies_of, body_of}
use Rattle.journal_at.specs.declared.read.Placed.{Placed}
use Rattle.record_bytes.specs.Versions.{AreApart}
use Rattle.site_model.specs.Told.{Files}
use Rattle.journal_page.specs.Contents.{Contents, IsBadAt, IsNoRecord, StandFor}
use Rattle.journal_page.specs.Pages.{IsPageOf, OneIsPrinted, Printed, whole_page}
use Rattle.journal_page.proofs.OneStanding.{bodies_one, foreign_none, is_one, judged_none, records_one}

contents_one : AreApart → (files : Files) (c d : Contents) → StandFor files c → StandFor files d → c ≡ d
contents_one apart files c d h k =
    let same = bodies_one files h.live k.live h.bodies k.bodies h.held k.held in
    let version = sym h.version ∙ ap (λ z. (head_of z).version) same ∙ k.version in
    let generation = sym h.generation ∙ ap (λ z. (head_of z).generation) same ∙ k.generation in
    let rs = records_one apart c.version d.version c.records d.records (records_of k.bodies) (subst (λ z. AreRecords c.version c.records (records_of z)) same h.are) k.are in
    λ i. record { version = version i; generation = generation i; records = rs i }

drop_bodies : (n : ℕ) (items : List Placed) → drop n (bodies_of items) ≡ bodies_of (drop n items)
drop_bodies n items = drop-map body_of n items

no_record : (files : Files) (file place : ℕ) (c : Contents) → IsNoRecord file place files → StandFor files c → ⊥
no_record files file place c b h =
    let same = bodies_one files h.live file h.bodies b.bodies h.held b.held in
    let version = sym h.version ∙ ap (λ z. (head_of z).version) same ∙ b.version in
    let texts = ap records_of same ∙ b.same ∙ drop_bodies b.found.start b.found.items.items ∙ ap bodies_of b.bad.is ∙ map-append body_of b.bad.front (b.bad.item ∷ b.bad.rest) in
    let are = subst (λ z. AreRecords z c.records (bodies_of b.bad.front ++ body_of b.bad.item ∷ bodies_of b.bad.rest)) version (subst (AreRecords c.version c.records) texts h.are) in
    let (r, is) = is_one b.found.version c.records (bodies_of b.bad.front) (body_of b.bad.item) (bodies_of b.bad.rest) are in
    b.bad.none r is

bad_none : (files : Files) (file place : ℕ) (c : Contents) → IsBadAt file place files → StandFor files c → ⊥
bad_none files file place c (inl b) h = judged_none files file place h.live h.bodies b h.held
bad_none files file place c (inr b) h = no_record files file place c b h

page_one : AreApart → (files : Files) (p : Printed) → IsPageOf files p → (c : Contents) → StandFor files c → p ≡ whole_page c
page_one apart files p (inl w) c h = w.is ∙ ap whole_page (contents_one apart files w.contents c w.stand h)
page_one apart files p (inr (inl r)) c h = absurd (bad_none files r.file r.place c r.bad h)
page_one apart files p (inr (inr n)) c h = absurd (foreign_none files h.live h.bodies n.none h.held)

pub one_is_printed : AreApart → OneIsPrinted
one_is_printed apart = page_one apart
