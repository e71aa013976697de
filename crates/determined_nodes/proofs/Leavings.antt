-- Outs leave by one row of calls.
use Rattle.std.specs.Prelude.{ℕ, List, [], ◌∷◌, ◌++◌, ◌≡◌, Bool, true, false, Option, Some, None}
use Rattle.std.proofs.Common.{ap, refl, subst, sym, ◌∙◌}
use Rattle.addressing.specs.declared.post_to.PostTo.{PostTo}
use Rattle.at_base.specs.declared.outs.Out.{Out}
use Rattle.at_base.specs.declared.outs.Out.TheVariants as outs
use Rattle.at_base.specs.declared.outs.Post.{Post}
use Rattle.http_post.specs.OutBytes.{answer_of, has_reason, post_of}
use Rattle.node_at.specs.Texts.{AreLeaving, IsAnswerOf, IsCallOf, IsPostOf, Leaving, goes_to}
use Rattle.node_at.specs.Texts.AreLeaving.{leaves, none, stays}
use Rattle.site_model.specs.Told.{Call}
use Rattle.wire_posts.specs.Envelopes.{AreBoth, IsTextOf, action_in}
use Rattle.determined_nodes.specs.Outs.{LeaveOneWay}

-- a post has one text
abbrev pub OneText : Type 0
OneText = (post : Post) → (x : List ℕ) → (y : List ℕ) → IsTextOf post x → IsTextOf post y → x ≡ y

module _ (one : OneText) where
  reply_one : (reply : Option Post) (x y : Option (List ℕ)) → AreBoth IsTextOf reply x → AreBoth IsTextOf reply y → x ≡ y
  reply_one None None None h k = refl
  reply_one None (Some x) y h k = absurd h
  reply_one None None (Some y) h k = absurd k
  reply_one (Some p) None y h k = absurd h
  reply_one (Some p) (Some x) None h k = absurd k
  reply_one (Some p) (Some x) (Some y) h k = ap (λ z. Some z) (one p x y h k)

  answer_one : (b : Bool) (status : ℕ) (reply : Option Post) (c d : Option Call) → IsAnswerOf b status reply c → IsAnswerOf b status reply d → c ≡ d
  answer_one false status reply None None h k = refl
  answer_one false status reply None (Some d) h k = absurd k
  answer_one false status reply (Some c) d h k = absurd h
  answer_one true status reply None d h k = absurd h
  answer_one true status reply (Some c) None h k = absurd k
  answer_one true status reply (Some c) (Some d) h k =
      ap (λ z. Some z) (h.is ∙ ap (λ t. Call.Send (answer_of status t)) (reply_one reply h.text k.text h.of k.of) ∙ sym k.is)

  post_one : (to : Option PostTo) (post : Post) (c d : Option Call) → IsPostOf to post c → IsPostOf to post d → c ≡ d
  post_one None post None None h k = refl
  post_one None post None (Some d) h k = absurd k
  post_one None post (Some c) d h k = absurd h
  post_one (Some to) post None d h k = absurd h
  post_one (Some to) post (Some c) None h k = absurd k
  post_one (Some to) post (Some c) (Some d) h k =
      ap (λ z. Some z) (h.is ∙ ap (λ t. Call.Post to.host to.port (post_of to (action_in post.message) t)) (one post h.text k.text h.of k.of) ∙ sym k.is)

  -- the call by which an out leaves, if any
  pub call_one : (o : Out) (c d : Option Call) → IsCallOf o c → IsCallOf o d → c ≡ d
  call_one (outs.Answer status reply) c d h k = answer_one (has_reason status) status reply c d h k
  call_one (outs.Post post) c d h k = post_one (goes_to post.to) post c d h k

  -- the last of a row
  last_one : (A : Type 0) (xs ys : List A) (x y : A) → xs ++ x ∷ [] ≡ ys ++ y ∷ [] → (xs ≡ ys) × (x ≡ y)
  last_one A [] [] x y e = (refl, cc)
  last_one A [] (y ∷ []) x z e = absurd cc
  last_one A [] (y ∷ (w ∷ ys)) x z e = absurd cc
  last_one A (x ∷ []) [] z y e = absurd cc
  last_one A (x ∷ (w ∷ xs)) [] z y e = absurd cc
  last_one A (x ∷ xs) (y ∷ ys) z w e =
      let first : x ≡ y = cc in
      let more : xs ++ z ∷ [] ≡ ys ++ w ∷ [] = cc in
      let (a, b) = last_one A xs ys z w more in
      ((λ i. first i ∷ a i), b)

  none_last : (A : Type 0) (xs : List A) (x : A) → [] ≡ xs ++ x ∷ [] → ⊥
  none_last A [] x e = cc
  none_last A (y ∷ xs) x e = cc

  some_call : (c d : Call) → Some c ≡ Some d → c ≡ d
  some_call c d e = cc

  no_call : (c : Call) → Some c ≡ None → ⊥
  no_call c e = cc

  leaving_is : (x y : Leaving) → x.out ≡ y.out → x.call ≡ y.call → x ≡ y
  leaving_is x y e f = λ i. record { out = e i; call = f i }

  by_rows : (os ps : List Out) (xs ys : List Leaving) → os ≡ ps → AreLeaving os xs → AreLeaving ps ys → xs ≡ ys
  by_rows os ps xs ys same none none = refl
  by_rows os ps xs ys same none (leaves {os = front} y are call a m) = absurd (none_last Out front y.out (same ∙ a))
  by_rows os ps xs ys same none (stays {os = front} o are call a) = absurd (none_last Out front o (same ∙ a))
  by_rows os ps xs ys same (leaves {os = front} x are call a m) none = absurd (none_last Out front x.out (sym same ∙ a))
  by_rows os ps xs ys same (stays {os = front} o are call a) none = absurd (none_last Out front o (sym same ∙ a))
  by_rows os ps xs ys same (leaves {os = front} {xs = before} x are call a m) (leaves {os = behind} {xs = later} y too said b n) =
      let (f, l) = last_one Out front behind x.out y.out (sym a ∙ same ∙ b) in
      let rest = by_rows front behind before later f are too in
      let one_call = some_call x.call y.call (call_one y.out (Some x.call) (Some y.call) (subst (λ o. IsCallOf o (Some x.call)) l call) said) in
      m ∙ (λ i. rest i ++ leaving_is x y l one_call i ∷ []) ∙ sym n
  by_rows os ps xs ys same (leaves {os = front} {xs = before} x are call a m) (stays {os = behind} o too said b) =
      let (f, l) = last_one Out front behind x.out o (sym a ∙ same ∙ b) in
      absurd (no_call x.call (call_one o (Some x.call) None (subst (λ z. IsCallOf z (Some x.call)) l call) said))
  by_rows os ps xs ys same (stays {os = front} o are call a) (leaves {os = behind} {xs = later} y too said b n) =
      let (f, l) = last_one Out front behind o y.out (sym a ∙ same ∙ b) in
      absurd (no_call y.call (sym (call_one y.out None (Some y.call) (subst (λ z. IsCallOf z None) l call) said)))
  by_rows os ps xs ys same (stays {os = front} o are call a) (stays {os = behind} p too said b) =
      let (f, l) = last_one Out front behind o p (sym a ∙ same ∙ b) in by_rows front behind xs ys f are too

pub leave_one_way : OneText → LeaveOneWay
leave_one_way one os xs ys h k = by_rows one os os xs ys refl h k
