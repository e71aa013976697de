-- What was sent of outs that are called by their own calls are the letters of their posts.
use Rattle.std.specs.Prelude.{List, [], ◌∷◌, ◌++◌, ◌≡◌, map}
use Rattle.std.proofs.Common.{inl, inr, refl, sym, ap, subst}
use Rattle.at_base.specs.declared.outs.Out.{Out}
use Rattle.at_base.specs.declared.outs.Out.TheVariants as outs
use Rattle.at_base.specs.declared.outs.Post.{Post}
use Rattle.node_at.specs.Doings.{Doing, deeds_of}
use Rattle.node_at.specs.Moments.{sent_of}
use Rattle.node_at.specs.Texts.{Leaving, call_by}
use Rattle.node_at.specs.TurnText.{TurnStep}
use Rattle.node_worlds.specs.Crashes.{IsNoPost}
use Rattle.node_worlds.specs.SentPosts.{AreSent, AreSome, Sent, also, posts_of}
use Rattle.site_model.specs.Told.{Call, Made, sent_by}
use Rattle.deliveries.specs.Letters.{AllAreCalled, AreCalled, AreLetters, IsCalled, IsLetter, posts_in}

pub posts_join : (xs ys : List Call) → posts_in (xs ++ ys) ≡ posts_in xs ++ posts_in ys
posts_join [] ys = refl
posts_join (Call.Post host port bytes ∷ xs) ys = ap (λ z. Call.Post host port bytes ∷ z) (posts_join xs ys)
posts_join (Call.Write file at bytes ∷ xs) ys = posts_join xs ys
posts_join (Call.Sync file ∷ xs) ys = posts_join xs ys
posts_join (Call.Send bytes ∷ xs) ys = posts_join xs ys

letters_join : (ps qs : List Post) (cs ds : List Call) → AreLetters ps cs → AreLetters qs ds → AreLetters (ps ++ qs) (cs ++ ds)
letters_join [] qs [] ds h k = k
letters_join [] qs (c ∷ cs) ds h k = absurd h
letters_join (p ∷ ps) qs [] ds h k = absurd h
letters_join (p ∷ ps) qs (c ∷ cs) ds h k = (h.0, letters_join ps qs cs ds h.1 k)

letter_first : (p : Post) (c : Call) (ps : List Post) (cs : List Call) → IsLetter p c → AreLetters ps (posts_in cs) → AreLetters (p ∷ ps) (posts_in (c ∷ cs))
letter_first p c ps cs h k = subst (λ z. AreLetters (p ∷ ps) (posts_in (z ∷ cs))) (sym h.call.is) (subst (IsLetter p) h.call.is h, k)

other_first : (c : Call) (ps : List Post) (cs : List Call) → IsNoPost c → AreLetters ps (posts_in cs) → AreLetters ps (posts_in (c ∷ cs))
other_first (Call.Post host port bytes) ps cs h k = absurd h
other_first (Call.Write file at bytes) ps cs h k = k
other_first (Call.Sync file) ps cs h k = k
other_first (Call.Send bytes) ps cs h k = k

one_first : (o : Out) (c : Call) (ps : List Post) (cs : List Call) → IsCalled o c → AreLetters ps (posts_in cs) → AreLetters (also o ps) (posts_in (c ∷ cs))
one_first (outs.Post p) c ps cs h k = letter_first p c ps cs h k
one_first (outs.Answer status reply) c ps cs h k = other_first c ps cs h k

all_letters : (xs : List Leaving) → AreCalled xs → AreLetters (posts_of xs) (posts_in (map call_by xs))
all_letters [] h = tt
all_letters (x ∷ xs) (h, k) = one_first x.out x.call (posts_of xs) (map call_by xs) h (all_letters xs k)

some_called : (xs ys : List Leaving) → AreSome xs ys → AreCalled ys → AreCalled xs
some_called [] ys s h = tt
some_called (x ∷ xs) [] s h = absurd s
some_called (x ∷ xs) (y ∷ ys) (inl (e, s)) (h, k) = (subst (λ (z : Leaving). IsCalled z.out z.call) (sym e) h, some_called xs ys s k)
some_called (x ∷ xs) (y ∷ ys) (inr s) (h, k) = some_called (x ∷ xs) ys s k

pub one_letters : (xs : List Leaving) (made : List Made) (ps : List Post) → AreCalled xs → Sent xs made ps → AreLetters ps (posts_in (sent_by made))
one_letters xs made ps h s =
    subst (λ z. AreLetters z (posts_in (sent_by made))) (sym s.posts)
    (subst (λ z. AreLetters (posts_of s.went) (posts_in z)) (sym s.calls) (all_letters s.went (some_called s.went xs s.some h)))

pub sent_letters : (steps : List TurnStep) (doings : List Doing) (ps : List Post) → AllAreCalled steps → AreSent steps doings ps → AreLetters ps (posts_in (sent_of (deeds_of doings)))
sent_letters [] [] ps h e = subst (λ z. AreLetters z []) (sym e) tt
sent_letters [] (d ∷ ds) ps h e = absurd e
sent_letters (s ∷ ss) [] ps h e = absurd e
sent_letters (s ∷ ss) (d ∷ ds) ps (h, k) (qs, rs, one, more, e) =
    subst (λ z. AreLetters z (posts_in (sent_by d.made ++ sent_of (deeds_of ds)))) (sym e)
    (subst (AreLetters (qs ++ rs)) (sym (posts_join (sent_by d.made) (sent_of (deeds_of ds))))
    (letters_join qs rs (posts_in (sent_by d.made)) (posts_in (sent_of (deeds_of ds))) (one_letters s.leaving d.made qs h one) (sent_letters ss ds rs k more)))
