-- How a file's bodies are read, one after another.
use Rattle.std.proofs.Common.{ℕ, List, None, [], ◌∷◌, length, ◌≡◌, ◌++◌, ◌+◌, ◌-◌, ◌<◌, ◌≤◌, ◌⊎◌, inl, inr, refl, sym, ◌∙◌, ap, subst, take, drop, arith}
use Rattle.std.specs.Int.{from_be_bytes, to_be_bytes, w32}
use Rattle.std.proofs.lemmas.List.{append_assoc, append-nil, length-append, take_at, drop_at}
use Rattle.std.proofs.lemmas.Nat.{from_be_bytes-to_be_bytes_4}
use Rattle.journal_at.specs.Format.{AreBodies, AreInPlace, AreUnmarked, Closed, FileOf, IsBody, behind, frames, mark_of}
use Rattle.journal_at.specs.Frames.{ArePlaced, Begins, Framed, IsBadAt, IsMisplaced, IsRead, IsShut, IsStray, IsWhy, NoFrame, bodies_of, body_of}
use Rattle.journal_at.specs.declared.read.BodiesFault.{BodiesFault}
use Rattle.journal_at.specs.declared.read.Placed.{Placed}
use Rattle.journal_at.specs.declared.read.BodiesFault.TheVariants.{NoMemory, Bad as BadAt}
use Rattle.journal_at.proofs.Frames.{four, head_of_list, tail_of}
use Rattle.journal_at.proofs.TornWrites.{frames_push}

pub start : (whole : List ℕ) → IsRead whole [] whole
start whole = record { sized = tt; is = refl; on = λ bodies h. (bodies, refl, h); back = λ more h. h; placed = tt }

-- what two framed bodies begin with is one body
pub same_size : (a b x y : List ℕ) → IsBody a → IsBody b → behind a ++ x ≡ behind b ++ y → length a ≡ length b
same_size a b x y ha hb e =
    let n = to_be_bytes w32 (length a) in
    let m = to_be_bytes w32 (length b) in
    let t : n ≡ m = sym (take_at n (a ++ x) 4 (four (length a))) ∙ ap (take 4) (sym (append_assoc n a x) ∙ e ∙ append_assoc m b y) ∙ take_at m (b ++ y) 4 (four (length b)) in
    sym (from_be_bytes-to_be_bytes_4 (length a) (omega (arith, ha.most))) ∙ ap (from_be_bytes w32) t ∙ from_be_bytes-to_be_bytes_4 (length b) (omega (arith, hb.most))

pub same_back : (a b x y : List ℕ) → behind a ++ x ≡ behind b ++ y → a ++ x ≡ b ++ y
same_back a b x y e =
    let n = to_be_bytes w32 (length a) in
    let m = to_be_bytes w32 (length b) in
    sym (drop_at n (a ++ x) 4 (four (length a))) ∙ ap (drop 4) (sym (append_assoc n a x) ∙ e ∙ append_assoc m b y) ∙ drop_at m (b ++ y) 4 (four (length b))

pub tail_framed : (body after f : List ℕ) (bodies : List (List ℕ)) → Begins body after f → Framed bodies f → (more : List (List ℕ)) × (bodies ≡ body ∷ more) × Framed more after
tail_framed body after f [] b h = absurd (h.closed.shut (sym (head_of_list _ _ _ _ (sym b.is ∙ h.closed.is))))
tail_framed body after f (x ∷ more) b h =
    let rest = frames more ++ (h.closed.gate ∷ h.closed.rest) in
    let e : behind x ++ rest ≡ behind body ++ after = sym (append_assoc (behind x) (frames more) (h.closed.gate ∷ h.closed.rest)) ∙ sym (tail_of _ _ _ _ (sym b.is ∙ h.closed.is)) in
    let n = same_size x body rest after h.sized.0 b.sized e in
    let k = same_back x body rest after e in
    let one : x ≡ body = sym (take_at x rest (length x) refl) ∙ ap (take (length x)) k ∙ take_at body after (length x) (sym n) in
    let two : rest ≡ after = sym (drop_at x rest (length x) refl) ∙ ap (drop (length x)) k ∙ drop_at body after (length x) (sym n) in
    (more, ap (λ z. z ∷ more) one, record { sized = h.sized.1; closed = record { gate = h.closed.gate; rest = h.closed.rest; shut = h.closed.shut; is = sym two } })

pub cons_framed : (body after f : List ℕ) (more : List (List ℕ)) → Begins body after f → Framed more after → Framed (body ∷ more) f
cons_framed body after f more b h =
    record {
      sized = (b.sized, h.sized);
      closed = record {
        gate = h.closed.gate;
        rest = h.closed.rest;
        shut = h.closed.shut;
        is = b.is ∙ ap (λ z. 1 ∷ (behind body ++ z)) h.closed.is ∙ ap (λ z. 1 ∷ z) (sym (append_assoc (behind body) (frames more) (h.closed.gate ∷ h.closed.rest)));
      };
    }

pub unmarked_push : (bodies : List (List ℕ)) (body : List ℕ) → AreUnmarked bodies → mark_of body ≡ None → AreUnmarked (bodies ++ body ∷ [])
unmarked_push [] body h e = (e, tt)
unmarked_push (x ∷ bodies) body h e = (h.0, unmarked_push bodies body h.1 e)

pub placed_push : (bodies : List (List ℕ)) (body : List ℕ) → AreInPlace bodies → (bodies ≡ []) ⊎ (mark_of body ≡ None) → AreInPlace (bodies ++ body ∷ [])
placed_push [] body h e = tt
placed_push (x ∷ bodies) body h (inl e) = absurd (omega (arith, ap length e))
placed_push (x ∷ bodies) body h (inr e) = unmarked_push bodies body h e

pub sized_push : (bodies : List (List ℕ)) (body : List ℕ) → AreBodies bodies → IsBody body → AreBodies (bodies ++ body ∷ [])
sized_push [] body h b = (b, tt)
sized_push (x ∷ bodies) body h b = (h.0, sized_push bodies body h.1 b)

pub gates_push : (at : ℕ) (old : List Placed) (placed : Placed) → ArePlaced at old → placed.gate ≡ at + length (frames (bodies_of old)) → ArePlaced at (old ++ placed ∷ [])
gates_push at [] placed h e = (omega (arith, e), tt)
gates_push at (first ∷ old) placed h e =
    let b = behind (body_of first) in
    let k = length-append b (frames (bodies_of old)) in
    let n = length-append (to_be_bytes w32 (length (body_of first))) (body_of first) in
    (h.0, gates_push (at + (5 + length (body_of first))) old placed h.1 (omega (arith, e, k, n, four (length (body_of first)))))

pub gates_more : (old new : List Placed) (placed : Placed) (gate : ℕ) → new ≡ old ++ placed ∷ [] → placed.gate ≡ gate → ArePlaced 0 old → gate ≡ length (frames (bodies_of old)) → ArePlaced 0 new
gates_more old new placed gate e g h k = subst (ArePlaced 0) (sym e) (gates_push 0 old placed h (omega (arith, g, k)))

pub one_more : (whole : List ℕ) (so_far : List (List ℕ)) (rest body after : List ℕ) → IsRead whole so_far rest → Begins body after rest → (so_far ≡ []) ⊎ (mark_of body ≡ None) → IsRead whole (so_far ++ body ∷ []) after
one_more whole so_far rest body after r b u =
    record {
      sized = sized_push so_far body r.sized b.sized;
      is = r.is ∙ ap (λ z. frames so_far ++ z) b.is ∙ sym (frames_push so_far body after);
      on = λ bodies h.
          let (more, e, m) = r.on bodies h in
          let (then, k, n) = tail_framed body after rest more b m in
          (then, e ∙ ap (λ z. so_far ++ z) k ∙ sym (append_assoc so_far (body ∷ []) then), n);
      back = λ more h. subst (λ z. Framed z whole) (sym (append_assoc so_far (body ∷ []) more)) (r.back (body ∷ more) (cons_framed body after rest more b h));
      placed = placed_push so_far body r.placed u;
    }

pub ended : (whole : List ℕ) (so_far : List (List ℕ)) (rest : List ℕ) → IsRead whole so_far rest → IsShut rest → FileOf whole so_far
ended whole so_far rest r s =
    let h = subst (λ z. Framed z whole) (append-nil so_far) (r.back [] (record { sized = tt; closed = record { gate = s.gate; rest = s.rest; shut = s.shut; is = s.is } })) in
    record { listed = record { sized = h.sized; placed = r.placed }; is = inr h.closed }

pub framed_of : (f : List ℕ) (bodies : List (List ℕ)) → 1 < length f → FileOf f bodies → Framed bodies f
framed_of f bodies l h = by_case h.is where
  by_case : ((length f ≤ 1) × (bodies ≡ [])) ⊎ Closed bodies f → Framed bodies f
  by_case (inl k) = absurd (omega (arith, k.0, l))
  by_case (inr k) = record { sized = h.listed.sized; closed = k }

pub before : (whole : List ℕ) (so_far : List (List ℕ)) (rest : List ℕ) → IsRead whole so_far rest → length whole - length rest ≡ length (frames so_far)
before whole so_far rest r = let k = ap length r.is ∙ length-append (frames so_far) rest in omega (arith, k)

-- where the reading stopped, a file stands for no bodies
pub bad_there : (whole : List ℕ) (so_far : List (List ℕ)) (rest : List ℕ) (place : ℕ) → 1 < length whole → IsRead whole so_far rest → place ≡ length whole - length rest → NoFrame rest ⊎ IsStray so_far rest → IsBadAt place whole
bad_there whole so_far rest place l r p b = record { front = so_far; rest = rest; long = l; sized = r.sized; placed = r.placed; is = r.is; at = p ∙ before whole so_far rest r; bad = b }

pub why_misplaced : (fault : BodiesFault) (whole : List ℕ) (so_far : List (List ℕ)) (rest body after : List ℕ) (place : ℕ) → 1 < length whole → IsRead whole so_far rest → place ≡ length whole - length rest → Begins body after rest → IsMisplaced fault place so_far body → IsWhy fault whole
why_misplaced NoMemory whole so_far rest body after place l r p b m = tt
why_misplaced (BadAt at) whole so_far rest body after place l r p b m = bad_there whole so_far rest at l r (m.0 ∙ p) (inr (record { body = body; after = after; begins = b; behind = m.1; mark = m.2 }))
