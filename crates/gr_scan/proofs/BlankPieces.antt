-- Spaces and ends of lines.
use Rattle.std.proofs.Common.{◌≡◌, ℕ, ◌<◌, true, List, [], ◌∷◌, length, take, get_or, ap, ◌∙◌, arith}
use Rattle.gr_scan.specs.declared.piece.Piece.{Piece}
use Rattle.gr_scan.specs.declared.piece.Piece.TheVariants as pieces
use Rattle.gr_scan.specs.declared.piece.Class.{Class}
use Rattle.gr_scan.specs.declared.piece.Class.TheVariants.{Space, Newline}
use Rattle.gr_scan.specs.Pieces.{is_space, Spells, IsPiece}
use Rattle.gr_scan.specs.Scanning.{class_of}
use Rattle.gr_scan.proofs.Basics.{not_here}
use Rattle.gr_scan.proofs.Classes.{may, holds_at}
use Rattle.gr_scan.proofs.Fronts.{size, byte, at, front_one}

-- one byte of a class that begins nothing longer
one_length : (text : List ℕ) → 0 < length text → length (take 1 text) ≡ 1
one_length text pos = size text 1 (omega arith)

abbrev IsLone : Class → Type 0
IsLone c = (q : Piece) (s : List ℕ) → may q c ≡ true → Spells q s → length s ≡ 1

lone_piece : (text : List ℕ) (p : Piece) (c : Class) → 0 < length text → IsLone c → class_of (get_or text 0 0) ≡ c → Spells p (take 1 text) → IsPiece p 1 text
lone_piece text p c pos lone e sp = record {
  fits = omega arith;
  spelled = sp;
  longest = λ q m lem s. omega (arith, lone q (take m text) (at text q m c e lem s) s, size text m lem);
}

lone_space : IsLone Space
lone_space pieces.Space s ok sp = sp.0
lone_space pieces.Newline s ok sp = not_here ok
lone_space pieces.Comment s ok sp = not_here ok
lone_space pieces.Word s ok sp = not_here ok
lone_space pieces.Number s ok sp = not_here ok
lone_space (pieces.Operator k) s ok sp = not_here ok
lone_space pieces.Fraction s ok sp = not_here ok
lone_space pieces.Text s ok sp = not_here ok
lone_space pieces.OpenComment s ok sp = not_here ok
lone_space pieces.GeneralComment s ok sp = not_here ok

lone_newline : IsLone Newline
lone_newline pieces.Space s ok sp = not_here ok
lone_newline pieces.Newline s ok sp = ap length sp
lone_newline pieces.Comment s ok sp = not_here ok
lone_newline pieces.Word s ok sp = not_here ok
lone_newline pieces.Number s ok sp = not_here ok
lone_newline (pieces.Operator k) s ok sp = not_here ok
lone_newline pieces.Fraction s ok sp = not_here ok
lone_newline pieces.Text s ok sp = not_here ok
lone_newline pieces.OpenComment s ok sp = not_here ok
lone_newline pieces.GeneralComment s ok sp = not_here ok

pub space_piece : (text : List ℕ) → 0 < length text → class_of (get_or text 0 0) ≡ Space → IsPiece pieces.Space 1 text
space_piece text pos c = lone_piece text pieces.Space Space pos lone_space c
    (one_length text pos, ap is_space (byte text 1 0 (omega arith)) ∙ holds_at (get_or text 0 0) Space c)

pub newline_piece : (text : List ℕ) → 0 < length text → class_of (get_or text 0 0) ≡ Newline → IsPiece pieces.Newline 1 text
newline_piece text pos c = lone_piece text pieces.Newline Newline pos lone_newline c
    (front_one text pos ∙ ap (λ b. b ∷ []) (holds_at (get_or text 0 0) Newline c))
