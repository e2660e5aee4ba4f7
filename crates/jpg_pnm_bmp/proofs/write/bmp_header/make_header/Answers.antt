use Rattle.std.proofs.Common.{◌≡◌, ◌++◌, ap, ◌∙◌}
use Rattle.jpg_pnm_bmp.specs.Bmp.{file_words, image_words, colour_words}
use Rattle.jpg_pnm_bmp.proofs.BmpParts.{words, gray_header, colour_header, on_ok}
use Rattle.jpg_pnm_bmp.proofs.write.bmp_header.make_header.Goals as goal

pub returns-in-Gray : goal.returns-in-Gray
returns-in-Gray c =
    let info = c.args.info.now in
    let text : c.put_file_words.new.text ≡ words info =
    c.put_file_words.ensures ∙ ap (λ t. file_words info ++ t) (c.put_image_words.ensures.words ∙ ap (λ t. image_words info ++ t) (c.put_colour_words.ensures.words ∙ ap (λ t. colour_words info ++ t) c.new-text.ensures)) in
    let before : c.extend_from_slice.new.self.items ≡ words info =
    c.in-Ok.ensures.items ∙ ap (λ t. t ++ c.as_slice.result.now) c.clear.ensures.items ∙ c.as_slice.ensures ∙ text in
    on_ok c.add_grays.result (gray_header info c.extend_from_slice.new.self.items c.add_grays.new.part.items c.in-Gray.is before) c.add_grays.ensures

pub returns-in-Rgb : goal.returns-in-Rgb
returns-in-Rgb c =
    let info = c.args.info.now in
    let text : c.put_file_words.new.text ≡ words info =
    c.put_file_words.ensures ∙ ap (λ t. file_words info ++ t) (c.put_image_words.ensures.words ∙ ap (λ t. image_words info ++ t) (c.put_colour_words.ensures.words ∙ ap (λ t. colour_words info ++ t) c.new-text.ensures)) in
    let before : c.extend_from_slice.new.self.items ≡ words info =
    c.in-Ok.ensures.items ∙ ap (λ t. t ++ c.as_slice.result.now) c.clear.ensures.items ∙ c.as_slice.ensures ∙ text in
    colour_header info c.extend_from_slice.new.self.items c.in-Rgb.is before
